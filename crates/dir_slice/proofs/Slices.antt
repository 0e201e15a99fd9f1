-- The lines of a slice after a step of one.
use Rattle.std.proofs.Common.{◌≡◌, ℕ, Bool, true, false, cond, refl, ap, ◌∙◌, subst, sym, inl, inr, append-nil}
use Rattle.std.specs.Prelude.{Option, Some, None, IfSome, IfOk, OnErr, Result, Ok, Err}
use Rattle.std.specs.FinMap.{FinMap, get, insert, get-insert, same_map, nat_cmp-IsAntisymmetric}
use Rattle.std.specs.Ordering.{nat_cmp, eq_by_cmp}
use Rattle.std.specs.Cmp.{nat_cmp_total}
use Rattle.std.proofs.lemmas.Bool.{cases_Bool}
use Rattle.std.proofs.lemmas.List.Elements.{All-nil}
use Rattle.std.proofs.lemmas.Map.Lookups.{exact_unsigned}
use Rattle.std.proofs.lemmas.Map.Views.{tells_apart}
use Rattle.sim_base.specs.declared.lines.LineData.{LineData}
use Rattle.sim_base.specs.declared.memory.NoMemory.{NoMemory}
use Rattle.sim_base.specs.declared.settings.Config.{Config}
use Rattle.wire_msg.specs.declared.lines.Want.{Want}
use Rattle.wire_msg.specs.declared.lines.Up.{Up}
use Rattle.wire_msg.specs.declared.lines.Up.TheVariants.{Asks, GivesUp, Acknowledges, HandsOver}
use Rattle.dir_slice.specs.Line.{Home, fresh}
use Rattle.dir_slice.specs.Inner.{IsMade, IsMadeIfAny, IsWithin, AreWithin, AreMade}
use Rattle.dir_slice.specs.Directory.{Mail, Step, Slice, zero_line, home_at, requested, answered, reaction, after_step, Answers}

-- each home knows nodes of the machine alone, also where one is put
pub fresh_within : (tiles : ℕ) (memory : LineData) → IsWithin tiles (fresh memory)
fresh_within tiles memory = record { state = tt; waiting = All-nil _ }

pub chosen_within : (tiles : ℕ) (b : Bool) (h : Home) (other : Option Home) → IsWithin tiles h → IfSome other (IsWithin tiles) → IfSome (cond b (Some h) other) (IsWithin tiles)
chosen_within tiles true h other here there = here
chosen_within tiles false h other here there = there

pub insert_within : (tiles : ℕ) (homes put : FinMap nat_cmp Home) (line : ℕ) (h : Home) → AreWithin tiles homes → put ≡ insert homes line h → IsWithin tiles h → AreWithin tiles put
insert_within tiles homes put line h all is here =
    λ q. let e : get put q ≡ cond (eq_by_cmp nat_cmp q line) (Some h) (get homes q) = ap (λ m. get m q) is ∙ get-insert nat_cmp_total homes line h q in
    rw e (chosen_within tiles (eq_by_cmp nat_cmp q line) h (get homes q) here (all q))

pub known_within : (tiles : ℕ) (homes : FinMap nat_cmp Home) (line : ℕ) (h : Home) → AreWithin tiles homes → Some h ≡ get homes line → IsWithin tiles h
known_within tiles homes line h all known = subst (λ o. IfSome o (IsWithin tiles)) (sym known) (all line)

-- a line's home, where it is known or not
pub home_known : (homes : FinMap nat_cmp Home) (line : ℕ) (h : Home) → Some h ≡ get homes line → home_at homes line ≡ h
home_known homes line h known = rw (← known) refl

pub home_unknown : (homes : FinMap nat_cmp Home) (line : ℕ) → get homes line ≡ None → home_at homes line ≡ fresh zero_line
home_unknown homes line unknown = rw unknown refl

-- what is there already can be put again
put_same : (homes : FinMap nat_cmp Home) (line : ℕ) (h : Home) → Some h ≡ get homes line → insert homes line h ≡ homes
put_same homes line h known =
    same_map nat_cmp_total nat_cmp-IsAntisymmetric _ _ (λ q. get-insert nat_cmp_total homes line h q
    ∙ elim (cases_Bool (eq_by_cmp nat_cmp q line)) [
      | inl t ↦ let here : q ≡ line = tells_apart exact_unsigned q line t in rw (t, here) known
      | inr t ↦ rw t refl
    ])

-- the lines after a step of one are those with its home after it
pub step_made : (homes put : FinMap nat_cmp Home) (line : ℕ) (step : Home → Step) (h new : Home) (result : Result (Unit {0}) NoMemory) (out_old out_new : Mail) → home_at homes line ≡ h
    → put ≡ insert homes line new → IfOk result (λ done. IsMade (step h) new out_old out_new)
    → IfOk result (λ done. AreMade line (Some (step (home_at homes line))) homes put out_old out_new)
step_made homes put line step h new (Ok done) out_old out_new here put_is made =
    rw here (record { homes = put_is ∙ ap (insert homes line) made.home; mail = made.mail })
step_made homes put line step h new (Err e) out_old out_new here put_is made = tt

any_made : (homes put : FinMap nat_cmp Home) (line : ℕ) (step : Option Step) (h new : Home) (out_old out_new : Mail) → Some h ≡ get homes line
    → put ≡ insert homes line new → IsMadeIfAny step h new out_old out_new → AreMade line step homes put out_old out_new
any_made homes put line (Some step) h new out_old out_new known put_is made = record { homes = put_is ∙ ap (insert homes line) made.home; mail = made.mail }
any_made homes put line None h new out_old out_new known put_is made =
    record { homes = put_is ∙ ap (insert homes line) made.0 ∙ put_same homes line h known; mail = made.1 ∙ sym (append-nil out_old) }

pub step_made_if_any : (homes put : FinMap nat_cmp Home) (line : ℕ) (step : Home → Option Step) (h new : Home) (result : Result (Unit {0}) NoMemory) (out_old out_new : Mail) → Some h ≡ get homes line
    → put ≡ insert homes line new → IfOk result (λ done. IsMadeIfAny (step h) h new out_old out_new)
    → IfOk result (λ done. AreMade line (step (home_at homes line)) homes put out_old out_new)
step_made_if_any homes put line step h new (Ok done) out_old out_new known put_is made =
    rw (home_known homes line h known) (any_made homes put line (step h) h new out_old out_new known put_is made)
step_made_if_any homes put line step h new (Err e) out_old out_new known put_is made = tt

-- a line that wasn't known has no row for an answer, and is put after a request
answer_unknown : (c : Config) (tile line : ℕ) (h : Home) (from : ℕ) (says : Up) (memory : LineData) → h ≡ fresh memory → answered c tile line h from says ≡ None
answer_unknown c tile line h from Acknowledges memory is = rw is refl
answer_unknown c tile line h from (HandsOver content) memory is = rw is refl
answer_unknown c tile line h from (GivesUp content) memory is = rw is refl
answer_unknown c tile line h from (Asks want) memory is = refl

pub none_made : (c : Config) (tile line : ℕ) (homes same : FinMap nat_cmp Home) (from : ℕ) (says : Up) (out : Mail) → get homes line ≡ None → same ≡ homes
    → AreMade line (answered c tile line (home_at homes line) from says) homes same out out
none_made c tile line homes same from says out unknown is =
    rw (answer_unknown c tile line (home_at homes line) from says zero_line (home_unknown homes line unknown)) (record { homes = is; mail = sym (append-nil out) })

pub put_within : (tiles : ℕ) (homes same put : FinMap nat_cmp Home) (line : ℕ) (h : Home) (result : Result (Unit {0}) NoMemory) → AreWithin tiles homes → same ≡ homes → IsWithin tiles h
    → IfOk result (λ done. put ≡ insert same line h) → OnErr result (put ≡ same) → AreWithin tiles put
put_within tiles homes same put line h (Ok done) all is here ok err = insert_within tiles homes put line h all (ok ∙ ap (λ m. insert m line h) is) here
put_within tiles homes same put line h (Err e) all is here ok err = rw (err, is) all

pub put_made : (homes same put : FinMap nat_cmp Home) (line : ℕ) (step : Home → Step) (h new : Home) (memory : LineData) (result : Result (Unit {0}) NoMemory) (out_old out_new : Mail) → get homes line ≡ None → same ≡ homes
    → h ≡ fresh memory → memory ≡ zero_line → IfOk result (λ done. put ≡ insert same line new) → IsMade (step h) new out_old out_new
    → IfOk result (λ done. AreMade line (Some (step (home_at homes line))) homes put out_old out_new)
put_made homes same put line step h new memory (Ok done) out_old out_new unknown is h_is memory_is put_is made =
    step_made homes put line step h new (Ok done) out_old out_new (home_unknown homes line unknown ∙ ap fresh (sym memory_is) ∙ sym h_is) (put_is ∙ ap (λ m. insert m line new) is) made
put_made homes same put line step h new memory (Err e) out_old out_new unknown is h_is memory_is put_is made = tt

-- a request that was made is the slice's answer
pub requested_so : (c : Config) (old between : Slice) (homes : FinMap nat_cmp Home) (line from : ℕ) (want asked : Want) (out_old out_new : Mail) → old.spent ≡ false → between ≡ record old { spent = true }
    → want ≡ asked → AreMade line (Some (requested c between.tile line (home_at between.homes line) (record { from = from; want = want }))) between.homes homes out_old out_new
    → Answers (Ok tt) old (record { tile = between.tile; tiles = between.tiles; homes = homes; spent = false }) out_old out_new line (reaction c old.tile line (home_at old.homes line) from (Asks asked))
requested_so c old between homes line from want asked out_old out_new spent between_is want_is made =
    let Said : Slice → Want → Type 0 = λ s q. AreMade line (Some (requested c s.tile line (home_at s.homes line) (record { from = from; want = q }))) s.homes homes out_old out_new in
    let now : Said old asked = subst (Said old) want_is (subst (λ s. Said s want) between_is made) in (
      spent,
      ap (λ (s : Slice). record { tile = s.tile; tiles = s.tiles; homes = homes; spent = false }) between_is
          ∙ ap (λ m. record { tile = old.tile; tiles = old.tiles; homes = m; spent = false }) now.homes
          ∙ ap (λ b. record { tile = old.tile; tiles = old.tiles; homes = after_step old.homes line (reaction c old.tile line (home_at old.homes line) from (Asks asked)); spent = b }) (sym spent),
      now.mail,
    )
