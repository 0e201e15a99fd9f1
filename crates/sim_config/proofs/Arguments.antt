-- The command of a form, one argument after the other.
use Rattle.std.proofs.Common.{◌≡◌, ℕ, ◌+◌, ◌<◌, false, List, Some, length, drop, get_or, map, sym, ap, ◌∙◌, Bor}
use Rattle.std.proofs.lemmas.List.{drop_more}
use Rattle.clap.specs.Simple.{App, with_rule, new_rule}
use Rattle.clap.specs.Walk.{Rule, rule_of}
use Rattle.clap.specs.declared.builder.action.ArgAction.TheVariants.{SetTrue}
use Rattle.clap.specs.declared.builder.arg.Arg.{Arg}
use Rattle.sim_config.specs.Inner.{flag_rule, names_of, option_rule, with_rules}

-- once the argument at a place was added, those after it are left
pub with_rules-more : (rule : List ℕ → Rule) (app more : App) (names : List (Bor (List ℕ))) (at : ℕ) (d : Bor (List ℕ)) → at < length names
    → more ≡ with_rule app (rule (get_or names at d).now) → with_rules more (map rule (names_of (drop (at + 1) names))) ≡ with_rules app (map rule (names_of (drop at names)))
with_rules-more rule app more names at d within added =
    ap (λ a. with_rules a (map rule (names_of (drop (at + 1) names)))) added ∙ sym (ap (λ rest. with_rules app (map rule (names_of rest))) (drop_more names at d within))

-- what was added is an option
pub option_added : (app more : App) (made long : Arg) (name : Bor (List ℕ)) → long ≡ record made { long = Some name } → rule_of made ≡ new_rule name.now → made.global ≡ false
    → (long.global ≡ false → more ≡ with_rule app (rule_of long)) → more ≡ with_rule app (option_rule name.now)
option_added app more made long name is rule local added =
    added (ap (λ (a : Arg). a.global) is ∙ local) ∙ ap (with_rule app) (ap rule_of is ∙ ap (λ (r : Rule). record r { long = Some name.now }) rule)

-- what was added is a flag
pub flag_added : (app more : App) (made long lone : Arg) (name : Bor (List ℕ)) → long ≡ record made { long = Some name } → lone ≡ record long { action = Some SetTrue }
    → rule_of made ≡ new_rule name.now → made.global ≡ false → (lone.global ≡ false → more ≡ with_rule app (rule_of lone)) → more ≡ with_rule app (flag_rule name.now)
flag_added app more made long lone name is then rule local added =
    added (ap (λ (a : Arg). a.global) then ∙ (ap (λ (a : Arg). a.global) is ∙ local))
    ∙ ap (with_rule app) (ap rule_of then ∙ (ap (λ (a : Arg). record (rule_of a) { action = Some SetTrue }) is
    ∙ ap (λ (r : Rule). record r { long = Some name.now; action = Some SetTrue }) rule))
