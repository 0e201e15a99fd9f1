-- A use of the name is the first in the words from its place on, and any other is passed over.
use Rattle.std.proofs.Common.{◌≡◌, ◌∙◌, ap, drop, is_some, rules, slice_index_or, sym, true, false, ◌+◌, ◌-◌, take, length, Some, None}
use Rattle.sim_config.specs.Inner.{first_use_of, is_of_name, lent_form, uses_after, uses_at}
use Rattle.sim_config.proofs.Cuts.{first_use-here, first_use-later, uses_at-next, with_used-some}
use Rattle.sim_config.proofs.rules.first_use.Goals as goal

pub returns-in_default : goal.returns-in_default
returns-in_default c =
    let form = lent_form c.args.form.now in
    let words = c.args.words.now in
    let at = c.loop-at.at in
    let word : c.as_bytes.result.now ≡ slice_index_or words at c.as_bytes.result.now = search rules in
    let step = c.after_word.ensures ∙ ap (λ o. uses_after form o (take (length words - (at + 1)) (drop (at + 1) words))) c.in_default.is in
    let next = uses_at-next form c.loop-at.reading None words at c.as_bytes.result.now c.loop-at-test.true word step in
    sym (ap (first_use_of c.args.name.now) next) ∙ c.loop-at.invariant.first

pub returns-then-is_of_name : goal.returns-then-is_of_name
returns-then-is_of_name c =
    let form = lent_form c.args.form.now in
    let words = c.args.words.now in
    let at = c.loop-at.at in
    let word : c.as_bytes.result.now ≡ slice_index_or words at c.as_bytes.result.now = search rules in
    let turn = c.in-Some.turn in
    let step = c.after_word.ensures ∙ ap (λ o. uses_after form o (take (length words - (at + 1)) (drop (at + 1) words))) c.in-Some.is in
    let next = uses_at-next form c.loop-at.reading (Some turn) words at c.as_bytes.result.now c.loop-at-test.true word step in
    let is : is_of_name c.args.name.now turn.used ≡ true = sym c.is_of_name.ensures ∙ c.if-is_of_name.true in
    first_use-here c.args.name.now turn.used (uses_at form turn.next (drop (at + 1) words)) is (sym (ap is_some next) ∙ c.loop-at.invariant.keep)
    ∙ sym (ap (first_use_of c.args.name.now) next) ∙ c.loop-at.invariant.first

pub loop-at-preserved : goal.loop-at-preserved
loop-at-preserved c =
    let form = lent_form c.args.form.now in
    let words = c.args.words.now in
    let at = c.loop-at.at in
    let word : c.as_bytes.result.now ≡ slice_index_or words at c.as_bytes.result.now = search rules in
    let turn = c.in-Some.turn in
    let step = c.after_word.ensures ∙ ap (λ o. uses_after form o (take (length words - (at + 1)) (drop (at + 1) words))) c.in-Some.is in
    let next = uses_at-next form c.loop-at.reading (Some turn) words at c.as_bytes.result.now c.loop-at-test.true word step in
    let is : is_of_name c.args.name.now turn.used ≡ false = sym c.is_of_name.ensures ∙ c.if-is_of_name.false in
    let later = uses_at form turn.next (drop (at + 1) words) in
    record {
      keep = sym (ap is_some next ∙ with_used-some turn.used later) ∙ c.loop-at.invariant.keep;
      first = sym (ap (first_use_of c.args.name.now) next ∙ first_use-later c.args.name.now turn.used later is) ∙ c.loop-at.invariant.first;
    }
