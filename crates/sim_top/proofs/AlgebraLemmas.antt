-- What holds of all stages: where one gives something no reading failed; and where it is told what files hold, a stage has one
-- answer, but for a fault of reading.
use Rattle.std.proofs.Common.{◌≡◌, ℕ, List, refl, sym, ap, subst, ◌∙◌, inl, inr}
use Rattle.std.specs.Prelude.{◌⊎◌, Option, Some, None, Result, Ok, Err}
use Rattle.std.proofs.lemmas.Option.{same_Some, none-some}
use Rattle.sim_outside.specs.Told.{Contents, Holds}
use Rattle.sim_outside.specs.Fault.{RisesOnce}
use Rattle.sim_top.specs.declared.outcomes.Outcome.{Outcome}
use Rattle.sim_top.specs.declared.outcomes.Outcome.TheVariants.{ReadFault}
use Rattle.sim_top.specs.Stage.{Reads, reads, ReadsWell, Stage, made, answered, FileSays, in_file, in_file_or, and_then, refused}

-- no reading failed where something is given

abbrev pub IsCalm : {A : Type 0} → Stage A → Type 0
IsCalm {A} stage = (r : Reads) (a : A) → stage r (Ok a) → ReadsWell r

pub calm_made : {A : Type 0} (Gives : A → Type 0) (Ends : Outcome → Type 0) → IsCalm (made Gives Ends)
calm_made Gives Ends r a is = is.0

pub calm_answered : {A : Type 0} (answer : Result A Outcome) → IsCalm (answered answer)
calm_answered answer r a is = is.0

pub calm_file : {A : Type 0} (name : List ℕ) (says : List ℕ → Result A Outcome) → IsCalm (in_file name says)
calm_file name says r a (inl failed) = absurd (cc (failed.1))
calm_file name says r a (inr is) = is.0

pub calm_file_or : {A : Type 0} (name : Option (List ℕ)) (says : List ℕ → Result A Outcome) (other : Stage A) → IsCalm other → IsCalm (in_file_or name says other)
calm_file_or None says other calm = calm
calm_file_or (Some name) says other calm = calm_file name says

pub calm_then : {A B : Type 0} (first : Stage A) (next : A → Stage B) → IsCalm first → ((a : A) → IsCalm (next a)) → IsCalm (and_then first next)
calm_then first next calm calm' r b (inl (outcome, ends, is)) = absurd (cc (is))
calm_then first next calm calm' r b (inr (a, between, gives, then_gives)) =
    calm' a (record r { before = between }) b then_gives ∙ calm (record r { after = between }) a gives

-- one answer

abbrev pub AreOne : {A : Type 0} → Result A Outcome → Result A Outcome → Type 0
AreOne x y = (x ≡ Err ReadFault) ⊎ (y ≡ Err ReadFault) ⊎ (x ≡ y)

abbrev pub IsOne : {A : Type 0} → (List ℕ → Option (List ℕ)) → Stage A → Type 0
IsOne {A} held stage = (before after before' after' : List ℕ → ℕ) (x y : Result A Outcome)
    → stage (reads (Some held) before after) x → stage (reads (Some held) before' after') y → AreOne x y

module _ (held : List ℕ → Option (List ℕ)) where
  pub one_answered : {A : Type 0} (answer : Result A Outcome) → IsOne held (answered answer)
  one_answered answer before after before' after' x y is is' = inr (inr (is.1 ∙ sym is'.1))

  one_says : {A : Type 0} (name : List ℕ) (says : List ℕ → Result A Outcome) (x y : Result A Outcome) → FileSays (Some held) name says x → FileSays (Some held) name says y → x ≡ y
  one_says name says x y (a, is_a, says_a) (b, is_b, says_b) =
      let same : a ≡ b = same_Some a b (sym is_a ∙ is_b) in
      sym says_a ∙ ap says same ∙ says_b

  pub one_file : {A : Type 0} (name : List ℕ) (says : List ℕ → Result A Outcome) → IsOne held (in_file name says)
  one_file name says before after before' after' x y (inl failed) is' = inl failed.1
  one_file name says before after before' after' x y (inr is) (inl failed) = inr (inl failed.1)
  one_file name says before after before' after' x y (inr is) (inr is') = inr (inr (one_says name says x y is.1 is'.1))

  pub one_file_or : {A : Type 0} (name : Option (List ℕ)) (says : List ℕ → Result A Outcome) (other : Stage A) → IsOne held other → IsOne held (in_file_or name says other)
  one_file_or None says other one = one
  one_file_or (Some name) says other one = one_file name says

  pub one_made : {A : Type 0} (Gives : A → Type 0) (Ends : Outcome → Type 0) → ((a b : A) → Gives a → Gives b → a ≡ b) → ((o p : Outcome) → Ends o → Ends p → o ≡ p)
      → ((a : A) (o : Outcome) → Gives a → Ends o → ⊥) → IsOne held (made Gives Ends)
  one_made Gives Ends gives ends not_both before after before' after' (Ok a) (Ok b) is is' = inr (inr (ap (λ x. Ok x) (gives a b is.1 is'.1)))
  one_made Gives Ends gives ends not_both before after before' after' (Ok a) (Err o) is is' = absurd (not_both a o is.1 is'.1)
  one_made Gives Ends gives ends not_both before after before' after' (Err o) (Ok b) is is' = absurd (not_both b o is'.1 is.1)
  one_made Gives Ends gives ends not_both before after before' after' (Err o) (Err p) is is' = inr (inr (ap (λ x. Err x) (ends o p is.1 is'.1)))

  by_ends : {A B : Type 0} (o p : Outcome) (x y : Result B Outcome) → AreOne {A = A} (Err o) (Err p) → x ≡ Err o → y ≡ Err p → AreOne x y
  by_ends o p x y (inl e) is is' = inl (cc)
  by_ends o p x y (inr (inl e)) is is' = inr (inl (cc))
  by_ends o p x y (inr (inr e)) is is' = inr (inr (cc))

  one_then_by : {A B : Type 0} (next : A → Stage B) → ((a : A) → IsOne held (next a)) → (a b : A) → AreOne (Ok a) (Ok b)
      → (before after before' after' : List ℕ → ℕ) (x y : Result B Outcome) → next a (reads (Some held) before after) x → next b (reads (Some held) before' after') y → AreOne x y
  one_then_by next one a b (inl e) before after before' after' x y is is' = absurd (cc (e))
  one_then_by next one a b (inr (inl e)) before after before' after' x y is is' = absurd (cc (e))
  one_then_by next one a b (inr (inr e)) before after before' after' x y is is' =
      let same : b ≡ a = cc in
      one a before after before' after' x y is (subst (λ z. next z (reads (Some held) before' after') y) same is')

  ok_and_err : {A B : Type 0} (a : A) (o : Outcome) (x : Result B Outcome) → AreOne (Ok a) (Err o) → x ≡ Err o → x ≡ Err ReadFault
  ok_and_err a o x (inl e) is = absurd (cc (e))
  ok_and_err a o x (inr (inl e)) is = cc
  ok_and_err a o x (inr (inr e)) is = absurd (cc (e))

  err_and_ok : {A B : Type 0} (a : A) (o : Outcome) (x : Result B Outcome) → AreOne (Err o) (Ok a) → x ≡ Err o → x ≡ Err ReadFault
  err_and_ok a o x (inl e) is = cc
  err_and_ok a o x (inr (inl e)) is = absurd (cc (e))
  err_and_ok a o x (inr (inr e)) is = absurd (cc (e))

  pub one_then : {A B : Type 0} (first : Stage A) (next : A → Stage B) → IsOne held first → ((a : A) → IsOne held (next a)) → IsOne held (and_then first next)
  one_then {A} first next one one' before after before' after' x y (inl (o, ends, is)) (inl (p, ends', is')) =
      by_ends {A = A} o p x y (one before after before' after' (Err o) (Err p) ends ends') is is'
  one_then first next one one' before after before' after' x y (inl (o, ends, is)) (inr (b, between', gives', next')) =
      inl (err_and_ok b o x (one before after before' between' (Err o) (Ok b) ends gives') is)
  one_then first next one one' before after before' after' x y (inr (a, between, gives, next_is)) (inl (p, ends', is')) =
      inr (inl (ok_and_err a p y (one before between before' after' (Ok a) (Err p) gives ends') is'))
  one_then first next one one' before after before' after' x y (inr (a, between, gives, next_is)) (inr (b, between', gives', next')) =
      one_then_by next one' a b (one before between before' between' (Ok a) (Ok b) gives gives') between after between' after' x y next_is next'

-- what is refused is refused for a reason

pub refused_for : {A E : Type 0} (why : E → Outcome) (x : Result A E) (o : Outcome) → refused why x ≡ Err o → (e : E) × (o ≡ why e) × (x ≡ Err e)
refused_for why (Ok a) o is = absurd (cc (is))
refused_for why (Err e) o is = (e, cc, refl)
