-- Where each outcome comes.
use Rattle.std.proofs.Common.{◌≡◌, ℕ, ◌<◌, List, refl, sym, ap, subst, ◌∙◌, inl, inr, arith}
use Rattle.std.specs.Prelude.{◌⊎◌, ◌↔◌, Option, Some, None, Result, Ok, Err}
use Rattle.std.proofs.lemmas.Option.{none-some}
use Rattle.sim_outside.specs.Fault.{RisesOnce, raised}
use Rattle.sim_config.specs.declared.request.Request.{Request}
use Rattle.sim_config.specs.Request.{workload_name}
use Rattle.sim_config.specs.Request.{meaning}
use Rattle.sim_top.specs.declared.outcomes.Outcome.{Outcome}
use Rattle.sim_top.specs.declared.outcomes.Outcome.TheVariants.{Written, Stuck, Usage, BadConfig, BadImage, BadJournal, ReadFault}
use Rattle.sim_top.specs.Stage.{Reads, reads}
use Rattle.sim_top.specs.Verdict.{Verdict, without_run, ComesTo}
use Rattle.sim_top.specs.Commands.{command_of, stages, Decides}
use Rattle.sim_top.specs.Causes.{faultless, IsToldWell, Means, IsRead, OneVerdict, UsageIsExact, ReadFaultHasCause, AbsentIsReadFault, BadConfigIsExact, BadImageIsExact, BadJournalIsExact, StuckIsExact, WrittenIsExact, WriteFaultHasCause}
use Rattle.sim_top.proofs.AlgebraLemmas.{AreOne, IsOne}
use Rattle.sim_top.proofs.CauseLemmas.{Cause, IsRun, IsWritten, request_ok, request_err}
use Rattle.sim_top.proofs.OneLemmas.{one_stages}
use Rattle.sim_top.proofs.WhyLemmas.{Why, words_why, no_replay, nothing_replayed, never_refused, settings_ends, machine_ends, journal_ends, stuck_ends, words_write}
use Rattle.sim_top.proofs.LostLemmas.{lost_request}

-- without a fault no stage ends so
pub not_risen : (r : Reads) (name : List ℕ) → IsToldWell r → RisesOnce r.before r.after name → ⊥
not_risen r name well rises = let fewer = well.no_fault name in omega (arith, rises.here)

no_read_fault : (meant : Option Request) (r : Reads) → IsToldWell r → stages meant r (Err ReadFault) → ⊥
no_read_fault None r well is = cc (is.1)
no_read_fault (Some request) r well is = let why = request_err request r ReadFault is in not_risen r why.0 well why.2

module _ (words : List (List ℕ)) (r : Reads) (well : IsToldWell r) where
  one_stage : (x y : Result Verdict Outcome) → stages (meaning words) r x → stages (meaning words) r y → AreOne x y
  one_stage x y is is' =
      one_stages well.held (meaning words) r.before r.after r.before r.after x y
      (subst (λ h. stages (meaning words) (reads h r.before r.after) x) well.told is) (subst (λ h. stages (meaning words) (reads h r.before r.after) y) well.told is')

  same_stage : (x y : Result Verdict Outcome) → stages (meaning words) r x → stages (meaning words) r y → AreOne x y → x ≡ y
  same_stage x y is is' (inl e) = absurd (no_read_fault (meaning words) r well (subst (stages (meaning words) r) e is))
  same_stage x y is is' (inr (inl e)) = absurd (no_read_fault (meaning words) r well (subst (stages (meaning words) r) e is'))
  same_stage x y is is' (inr (inr e)) = e

  one : (x y : Result Verdict Outcome) → stages (meaning words) r x → stages (meaning words) r y → x ≡ y
  one x y is is' = same_stage x y is is' (one_stage x y is is')

  one_verdict_of : (v u : Verdict) → Decides words r v → Decides words r u → v ≡ u
  one_verdict_of v u (inl is) (inl is') = let e = one (Ok v) (Ok u) is is' in cc (e)
  one_verdict_of v u (inl is) (inr (o, ends, same)) = let e = one (Ok v) (Err o) is ends in absurd (cc (e))
  one_verdict_of v u (inr (o, ends, same)) (inl is) = let e = one (Err o) (Ok u) ends is in absurd (cc (e))
  one_verdict_of v u (inr (o, ends, same)) (inr (p, ends', same')) =
      let e : o ≡ p = let f = one (Err o) (Err p) ends ends' in cc (f) in
      same ∙ ap without_run e ∙ sym same'

pub one_verdict : OneVerdict
one_verdict words r v u well decides decides' = one_verdict_of words r well v u decides decides'

-- the words mean nothing

usage_by : (words : List (List ℕ)) (r : Reads) (v : Verdict) → ((meaning words ≡ None) × (v.outcome ≡ Usage)) ⊎ Means words (λ request. Why request r v v.outcome)
    → (v.outcome ≡ Usage) ↔ (meaning words ≡ None)
usage_by words r v (inl (none, is)) = ((λ _. none), (λ _. is))
usage_by words r v (inr (request, meant, why)) = ((λ is. absurd (subst (Why request r v) is why)), (λ none. absurd (none-some request (sym none ∙ meant))))

pub usage_is_exact : UsageIsExact
usage_is_exact words r v decides = usage_by words r v (words_why words r v decides)

-- an outcome that isn't Usage tells why

told_by : (words : List (List ℕ)) (r : Reads) (v : Verdict) (o : Outcome) → (Usage ≡ o → ⊥) → v.outcome ≡ o
    → ((meaning words ≡ None) × (v.outcome ≡ Usage)) ⊎ Means words (λ request. Why request r v v.outcome) → Means words (λ request. Why request r v o)
told_by words r v o not is (inl (none, usage)) = absurd (not (sym usage ∙ is))
told_by words r v o not is (inr (request, meant, why)) = (request, meant, subst (Why request r v) is why)

pub told_why : (words : List (List ℕ)) (r : Reads) (v : Verdict) (o : Outcome) → (Usage ≡ o → ⊥) → Decides words r v → v.outcome ≡ o → Means words (λ request. Why request r v o)
told_why words r v o not decides is = told_by words r v o not is (words_why words r v decides)

pub read_fault_has_cause : ReadFaultHasCause
read_fault_has_cause words r v decides is = told_why words r v ReadFault (λ e. cc (e)) decides is

-- a file isn't there

absent_by : (r : Reads) (v : Verdict) (held : List ℕ → Option (List ℕ)) (request : Request) (absent : List ℕ) → r.holds ≡ Some held → IsRead r request absent → held absent ≡ None
    → ComesTo (stages (Some request)) r v → v.outcome ≡ ReadFault
absent_by r v held request absent told read gone (inl is) = absurd (let e = lost_request held request absent r told gone read (Ok v) is in cc (e))
absent_by r v held request absent told read gone (inr (o, ends, same)) =
    let e : o ≡ ReadFault = let f = lost_request held request absent r told gone read (Err o) ends in cc (f) in
    ap (λ u. u.outcome) same ∙ e

pub absent_is_read_fault : AbsentIsReadFault
absent_is_read_fault words r v held request absent told meant read gone decides =
    absent_by r v held request absent told read gone (subst (λ m. ComesTo (stages m) r v) meant decides)

-- a refusal comes where it is due

module _ (words : List (List ℕ)) (r : Reads) (well : IsToldWell r) (v : Verdict) (request : Request) (meant : meaning words ≡ Some request) (o : Outcome)
    (not : o ≡ ReadFault → ⊥) (due : command_of request request (faultless r) (Err o)) where
  there : (x : Result Verdict Outcome) → command_of request request r x → AreOne x (Err o)
  there x is =
      one_stages well.held (Some request) r.before r.after r.before r.before x (Err o) (subst (λ h. command_of request request (reads h r.before r.after) x) well.told is)
      (subst (λ h. command_of request request (reads h r.before r.before) (Err o)) well.told due)

  same_end : (p : Outcome) → command_of request request r (Err p) → AreOne {A = Verdict} (Err p) (Err o) → p ≡ o
  same_end p ends (inl e) = absurd (no_read_fault (Some request) r well (subst (command_of request request r) e ends))
  same_end p ends (inr (inl e)) = absurd (not (cc (e)))
  same_end p ends (inr (inr e)) = cc (e)

  not_given : (u : Verdict) → AreOne (Ok u) (Err o) → ⊥
  not_given u (inl e) = cc (e)
  not_given u (inr (inl e)) = not (cc (e))
  not_given u (inr (inr e)) = cc (e)

  due_by : ComesTo (stages (Some request)) r v → v.outcome ≡ o
  due_by (inl is) = absurd (not_given v (there (Ok v) is))
  due_by (inr (p, ends, same)) = ap (λ u. u.outcome) same ∙ same_end p ends (there (Err p) ends)

  pub is_due : Decides words r v → v.outcome ≡ o
  is_due decides = due_by (subst (λ m. ComesTo (stages m) r v) meant decides)

pub bad_config_is_exact : BadConfigIsExact
bad_config_is_exact words r v field well decides = (
  told_why words r v (BadConfig field) (λ e. cc (e)) decides,
  λ (request, meant, is). is_due words r well v request meant (BadConfig field) (λ e. cc (e))
      (machine_ends request (faultless r) (BadConfig field) (settings_ends request (faultless r) (BadConfig field) is)) decides,
)

pub bad_image_is_exact : BadImageIsExact
bad_image_is_exact words r v fault well decides = (
  told_why words r v (BadImage fault) (λ e. cc (e)) decides,
  λ (request, meant, is). is_due words r well v request meant (BadImage fault) (λ e. cc (e)) (machine_ends request (faultless r) (BadImage fault) is) decides,
)

pub bad_journal_is_exact : BadJournalIsExact
bad_journal_is_exact words r v fault well decides = (
  told_why words r v (BadJournal fault) (λ e. cc (e)) decides,
  λ (request, meant, is). is_due words r well v request meant (BadJournal fault) (λ e. cc (e)) (journal_ends request r fault is) decides,
)

pub stuck_is_exact : StuckIsExact
stuck_is_exact words r v well decides = (
  told_why words r v Stuck (λ e. cc (e)) decides,
  λ (request, meant, is). is_due words r well v request meant Stuck (λ e. cc (e)) (stuck_ends request r is) decides,
)

-- a workload is written

written_by : (request : Request) (r : Reads) (v : Verdict) (name : List ℕ) → workload_name request ≡ Some name → IsRun r request v ⊎ IsWritten request v → v.outcome ≡ Written
written_by request r v name named (inl (w, has, inl (draws, is_drawn), run, files)) = absurd (none-some name (sym draws.0 ∙ named))
written_by request r v name named (inl (w, has, inr told, run, files)) =
    absurd (nothing_replayed request (faultless r) (Ok v.journal) (no_replay request name named) told)
written_by request r v name named (inr is) = is.0

written_due : (request : Request) (r : Reads) (v : Verdict) (name : List ℕ) → workload_name request ≡ Some name → ComesTo (stages (Some request)) r v → v.outcome ≡ Written
written_due request r v name named (inl is) = written_by request r v name named (request_ok request r v is)
written_due request r v name named (inr (o, ends, same)) = absurd (never_refused request name r o named ends)

pub written_is_exact : WrittenIsExact
written_is_exact words r v decides = (
  told_why words r v Written (λ e. cc (e)) decides,
  λ (request, meant, named). written_due request r v named.0 named.1 (subst (λ m. ComesTo (stages m) r v) meant decides),
)

-- a file or the stream failed

pub write_fault_has_cause : WriteFaultHasCause
write_fault_has_cause words r s w journal (v, decides, same, inl (part, nothing)) = inl part.rose
write_fault_has_cause words r s w journal (v, decides, same, inr (put, failed)) =
    let means = words_write words r v failed.count failed.file failed.next decides in
    inr (means.0, means.1, (failed.file.name, means.2, failed.rose))
