use Rattle.std.proofs.Common.{ℕ, nat_eq, sym, ◌∙◌, ap, rules, tests}
use Rattle.std.specs.Option.{option_map}
use Rattle.std.proofs.lemmas.Iterator.Consumers.{YieldsList-from_rest}
use Rattle.std.proofs.lemmas.Iterator.Search.{find_from_yields_List}
use Rattle.futex_table.proofs.Orderly.{longest_at-entries}
use Rattle.futex_table.proofs.futexes.longest_at.Goals as goal

pub returns-in_err-thread : goal.returns-in_err-thread
returns-in_err-thread c =
    let found = ap (option_map (λ (e : ℕ × ℕ). e.0)) (find_from_yields_List (λ (e : ℕ × ℕ). nat_eq e.1 c.args.addr) _ _ c.find.result c.find.ensures.ran (YieldsList-from_rest c.args.addresses.now.entries cc) (λ x b q k. search (rules, tests))) in
    c.from_residual.ensures ∙ (rw c.in_err-thread.was at found) ∙ sym (longest_at-entries c.args.addr c.args.addresses.now.entries)

pub returns : goal.returns
returns c =
    let found = ap (option_map (λ (e : ℕ × ℕ). e.0)) (find_from_yields_List (λ (e : ℕ × ℕ). nat_eq e.1 c.args.addr) _ _ c.find.result c.find.ensures.ran (YieldsList-from_rest c.args.addresses.now.entries cc) (λ x b q k. search (rules, tests))) in
    (rw c.in_ok-thread.was at found) ∙ sym (longest_at-entries c.args.addr c.args.addresses.now.entries)
