-- A file that is no UTF-8 is no document, and neither is one that TOML's grammar refuses.
use Rattle.std.proofs.Common.{◌∙◌, ap, cond, refl, sym, None, inl, inr}
use Rattle.std.specs.Str.{is_utf8}
use Rattle.std.proofs.lemmas.Bool.{cases_Bool, true≢false}
use Rattle.std.proofs.lemmas.Str.{IsUtf8-from_is_utf8, is_utf8-from_IsUtf8}
use Rattle.toml.specs.Parse.{parse_document}
use Rattle.sim_config.proofs.file.table_of.Goals as goal

pub returns-in-Ok : goal.returns-in-Ok
returns-in-Ok c =
    let text = c.args.bytes.now in
    ap (λ is_text. cond is_text (parse_document text) None) (is_utf8-from_IsUtf8 text c.in-Ok.ensures.ok.0) ∙ c.in-Ok.ensures.ok.1

pub returns-else-is_memory : goal.returns-else-is_memory
returns-else-is_memory c =
    let text = c.args.bytes.now in (
      refl,
      elim (cases_Bool (is_utf8 text)) [
        | inl is_text ↦ ap (λ b. cond b (parse_document text) None) is_text ∙ c.in-Err.ensures.refused (λ memory. true≢false (sym (c.if-is_memory.ensures.1 memory))) (IsUtf8-from_is_utf8 text is_text)
        | inr is_none ↦ ap (λ b. cond b (parse_document text) None) is_none
      ],
    )
