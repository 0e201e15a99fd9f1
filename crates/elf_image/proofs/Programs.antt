-- What has none of the faults of a program is one, and a program has none.
use Rattle.std.proofs.Common.{◌≡◌, ◌%◌, ◌^◌, ◌<◌, ◌&&◌, ◌==◌, ℕ, Bool, true, false, List, length, get_or, sum_by, refl, nat_lt, sym, Option, Some, None, if◌then◌else◌, inl, inr}
use Rattle.std.specs.Prelude.{IfNone, OnSome}
use Rattle.std.specs.List.{list_any}
use Rattle.std.proofs.lemmas.Bool.{cases_Bool, both_ways, not-false, or_parts, and_parts, eqb-true, ltb-false, le-ltb}
use Rattle.std.proofs.lemmas.List.Elements.{All-weaker}
use Rattle.std.proofs.lemmas.List.Folds.{list_any_at, list_any_none}
use Rattle.elf_image.specs.declared.program.Segment.{Segment}
use Rattle.elf_image.specs.declared.refusal.ImageFault.{ImageFault}
use Rattle.elf_image.specs.Image.{Program, segment_end, grants_write, grants_execute, first_of, program_refusals, reaches_too_far, overlaps, has_write_exec, has_wrong_entry, some_executes, IsSegment, IsProgram, AreSmall}

pub not_first : (b : Bool) (fault : ImageFault) (later : Option ImageFault) → (if b then Some fault else later) ≡ None → (b ≡ false) × (later ≡ None)
not_first true fault later e = cc
not_first false fault later e = (refl, e)

-- what the tests say, where none holds
record Passes (p : Program) : Type 0 where
  reach : reaches_too_far p.segments ≡ false
  apart : overlaps p.segments ≡ false
  exec : has_write_exec p.segments ≡ false
  entry : has_wrong_entry p ≡ false

passes : (p : Program) → first_of program_refusals p ≡ None → Passes p
unfolding first_of program_refusals
passes p none =
    let reach = not_first _ _ _ none in
    let apart = not_first _ _ _ reach.1 in
    let exec = not_first _ _ _ apart.1 in
    let entry = not_first _ _ _ exec.1 in
    record { reach = reach.0; apart = apart.0; exec = exec.0; entry = entry.0 }

-- what no element passes each one fails
fails_at : (test : Segment → Bool) (segments : List Segment) → list_any test segments ≡ false → (k : ℕ) (d : Segment) → k < length segments → test (get_or segments k d) ≡ false
fails_at test segments none k d inside = elim (cases_Bool (test (get_or segments k d))) [
  | inl t ↦ absurd (both_ways (list_any test segments) none (list_any_at test segments k d inside t))
  | inr f ↦ f
]

pub passes_is_program : (p : Program) → AreSmall p.segments → first_of program_refusals p ≡ None → IsProgram p
unfolding reaches_too_far has_write_exec has_wrong_entry
passes_is_program p small none =
    let tests = passes p none in
    let reach = or_parts (list_any (λ s. nat_lt (2 ^ 32) (segment_end s)) p.segments) (nat_lt 268435456 (sum_by (λ s. s.memsz) p.segments)) tests.reach in
    let entry = and_parts (p.entry % 4 == 0) (some_executes p p.entry) (not-false _ tests.entry) in
    record {
      few = small.few;
      each = λ k d inside. record {
        bytes_fit = small.bytes_fit k d inside;
        three_flags = small.three_flags k d inside;
        low_end = ltb-false (2 ^ 32) (segment_end (get_or p.segments k d)) (fails_at (λ s. nat_lt (2 ^ 32) (segment_end s)) p.segments reach.0 k d inside);
        not_both = fails_at (λ s. grants_write s && grants_execute s) p.segments tests.exec k d inside;
      };
      size = ltb-false 268435456 (sum_by (λ s. s.memsz) p.segments) reach.1;
      apart = tests.apart;
      aligned = eqb-true (p.entry % 4) 0 entry.0;
      entered = entry.1;
    }

reach_right : (p : Program) → IsProgram p → reaches_too_far p.segments ≡ false
unfolding reaches_too_far
reach_right p is =
    let ends = list_any_none (λ s. nat_lt (2 ^ 32) (segment_end s)) p.segments (All-weaker IsSegment (λ s. nat_lt (2 ^ 32) (segment_end s) ≡ false) (λ s e. le-ltb (2 ^ 32) (segment_end s) e.low_end) p.segments is.each) in
    rw (ends, le-ltb 268435456 (sum_by (λ s. s.memsz) p.segments) is.size)

exec_right : (p : Program) → IsProgram p → has_write_exec p.segments ≡ false
unfolding has_write_exec
exec_right p is =
    list_any_none (λ s. grants_write s && grants_execute s) p.segments (All-weaker IsSegment (λ s. (grants_write s && grants_execute s) ≡ false) (λ s e. e.not_both) p.segments is.each)

entry_right : (p : Program) → IsProgram p → has_wrong_entry p ≡ false
unfolding has_wrong_entry
entry_right p is = rw (is.aligned, is.entered)

pub program_passes : (p : Program) → IsProgram p → first_of program_refusals p ≡ None
unfolding first_of program_refusals
program_passes p is = rw (reach_right p is, is.apart, exec_right p is, entry_right p is) refl

-- the fault of an entry and segments, where there is none, and where there is one
pub no_fault : (p : Program) (o : Option ImageFault) → o ≡ first_of program_refusals p → IfNone o (AreSmall p.segments → IsProgram p)
no_fault p None e = λ small. passes_is_program p small (sym e)
no_fault p (Some fault) e = tt

pub some_fault : (p : Program) (o : Option ImageFault) → o ≡ first_of program_refusals p → OnSome o (IsProgram p → ⊥)
some_fault p None e = tt
some_fault p (Some fault) e = λ is. let none = program_passes p is in cc
