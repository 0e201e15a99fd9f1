-- A word that may stand leads to a place from which the rest goes on, and after one that may not none does.
use Rattle.std.proofs.Common.{◌≡◌, ◌∙◌, ap, drop, is_some, rules, slice_index_or, sym, ◌+◌, ◌-◌, take, length, Some, None}
use Rattle.sim_config.specs.Inner.{lent_form, uses_after, uses_at}
use Rattle.sim_config.proofs.Cuts.{uses_at-next, with_used-some}
use Rattle.sim_config.proofs.rules.keeps_rules.Goals as goal

pub loop-at-preserved : goal.loop-at-preserved
loop-at-preserved c =
    let form = lent_form c.args.form.now in
    let words = c.args.words.now in
    let at = c.loop-at.at in
    let word : c.as_bytes.result.now ≡ slice_index_or words at c.as_bytes.result.now = search rules in
    let turn = c.in-Some.turn in
    let step = c.after_word.ensures ∙ ap (λ o. uses_after form o (take (length words - (at + 1)) (drop (at + 1) words))) c.in-Some.is in
    let next = uses_at-next form c.loop-at.reading (Some turn) words at c.as_bytes.result.now c.loop-at-test.true word step in
    sym (ap is_some next ∙ with_used-some turn.used (uses_at form turn.next (drop (at + 1) words))) ∙ c.loop-at.invariant

pub returns-in-None : goal.returns-in-None
returns-in-None c =
    let form = lent_form c.args.form.now in
    let words = c.args.words.now in
    let at = c.loop-at.at in
    let word : c.as_bytes.result.now ≡ slice_index_or words at c.as_bytes.result.now = search rules in
    let step = c.after_word.ensures ∙ ap (λ o. uses_after form o (take (length words - (at + 1)) (drop (at + 1) words))) c.in-None.is in
    sym (ap is_some (uses_at-next form c.loop-at.reading None words at c.as_bytes.result.now c.loop-at-test.true word step)) ∙ c.loop-at.invariant
