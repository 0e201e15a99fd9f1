-- Facts beside the definitions by recursion.
use Rattle.std.proofs.Common.{◌≡◌, ◌<◌, ◌≤◌, ◌||◌, ℕ, zero, suc, Bool, true, false, List, [], ◌∷◌, All, refl, arith, max, fold, length, IsTrue}
use Rattle.std.specs.Prelude.{IsSomeAnd, slice_get}
use Rattle.std.specs.List.{list_any}
use Rattle.std.proofs.lemmas.Bool.Decides.{nat_tests}
use Rattle.std.proofs.lemmas.List.Elements.{All-tail, All-weaker, All-cons}
use Rattle.elf_image.specs.declared.program.Segment.{Segment}
use Rattle.elf_image.specs.Image.{Program, holds, segment_end, share_byte, overlaps, HaveCommonAddress, OverlapIsCommonAddress, ProgramIsWithoutFault, IsSegment, IsProgram, AreSmall}
use Rattle.elf_image.specs.Layout.{last_end, heap_start, HeapStartsPastSegments}
use Rattle.elf_image.proofs.Programs.{passes_is_program, program_passes}

-- the later of two starts is an address of both, where they share a byte
first_common : (s t : Segment) → share_byte s t ≡ true → IsTrue (holds s (max s.vaddr t.vaddr)) × IsTrue (holds t (max s.vaddr t.vaddr))
first_common s t e = (grind (arith, nat_tests), grind (arith, nat_tests))

has_common : (s t : Segment) (a : ℕ) → IsTrue (holds s a) → IsTrue (holds t a) → share_byte s t ≡ true
has_common s t a h g = grind (arith, nat_tests)

found_common : (s : Segment) (rest : List Segment) → list_any (share_byte s) rest ≡ true → (j : ℕ) × (a : ℕ) × IsTrue (holds s a) × IsSomeAnd (slice_get rest j) (λ t. IsTrue (holds t a))
found_common s [] e = cc
found_common s (t ∷ rest) e = by_test (share_byte s t) refl (found_common s rest) e
  where
    by_test : (b : Bool) → share_byte s t ≡ b → (list_any (share_byte s) rest ≡ true → (j : ℕ) × (a : ℕ) × IsTrue (holds s a) × IsSomeAnd (slice_get rest j) (λ u. IsTrue (holds u a)))
        → (b || list_any (share_byte s) rest) ≡ true → (j : ℕ) × (a : ℕ) × IsTrue (holds s a) × IsSomeAnd (slice_get (t ∷ rest) j) (λ u. IsTrue (holds u a))
    by_test true is later e = let both = first_common s t is in (0, max s.vaddr t.vaddr, both.0, both.1)
    by_test false is later e = let found = later e in (suc found.0, found.1, found.2, found.3)

common_of : (segments : List Segment) → overlaps segments ≡ true → HaveCommonAddress segments
common_of [] e = cc
common_of (s ∷ rest) e = by_test (list_any (share_byte s) rest) refl (common_of rest) e
  where
    by_test : (b : Bool) → list_any (share_byte s) rest ≡ b → (overlaps rest ≡ true → HaveCommonAddress rest) → (b || overlaps rest) ≡ true → HaveCommonAddress (s ∷ rest)
    by_test true is later e = let found = found_common s rest is in (0, suc found.0, found.1, omega arith, found.2, found.3)
    by_test false is later e = let found = later e in (suc found.0, suc found.1, found.2, omega (arith, found.3), found.4, found.5)

-- an element at some place that passes a test
any_at : (s : Segment) (rest : List Segment) (j a : ℕ) → IsTrue (holds s a) → IsSomeAnd (slice_get rest j) (λ t. IsTrue (holds t a)) → list_any (share_byte s) rest ≡ true
any_at s [] j a h g = absurd g
any_at s (t ∷ rest) zero a h g = rw (has_common s t a h g) refl
any_at s (t ∷ rest) (suc j) a h g = rw (any_at s rest j a h g) (or_true (share_byte s t))
  where
    or_true : (b : Bool) → (b || true) ≡ true
    or_true true = refl
    or_true false = refl

overlaps_of : (segments : List Segment) (i j a : ℕ) → i < j → IsSomeAnd (slice_get segments i) (λ s. IsTrue (holds s a)) → IsSomeAnd (slice_get segments j) (λ t. IsTrue (holds t a)) → overlaps segments ≡ true
overlaps_of [] i j a before h g = absurd h
overlaps_of (s ∷ rest) i zero a before h g = absurd (omega arith)
overlaps_of (s ∷ rest) zero (suc j) a before h g = rw (any_at s rest j a h g) refl
overlaps_of (s ∷ rest) (suc i) (suc j) a before h g = rw (overlaps_of rest i j a (omega arith) h g) (or_true (list_any (share_byte s) rest))
  where
    or_true : (b : Bool) → (b || true) ≡ true
    or_true true = refl
    or_true false = refl

pub overlap_is_common : OverlapIsCommonAddress
overlap_is_common = λ segments. (common_of segments, λ found. overlaps_of segments found.0 found.1 found.2 found.3 found.4 found.5)

small : (p : Program) → IsProgram p → AreSmall p.segments
small p is = record {
  few = is.few;
  bytes_fit = All-weaker IsSegment (λ (s : Segment). length s.bytes ≤ s.memsz) (λ s e. e.bytes_fit) p.segments is.each;
  three_flags = All-weaker IsSegment (λ (s : Segment). s.flags < 8) (λ s e. e.three_flags) p.segments is.each;
}

pub program_without_fault : ProgramIsWithoutFault
program_without_fault = λ p. ((λ is. (small p is, program_passes p is)), λ tests. passes_is_program p tests.0 tests.1)

abbrev greatest : ℕ → List Segment → ℕ
greatest so_far segments = fold (λ last s. max last (segment_end s)) so_far segments

-- the greatest end is at or above the ends, and no other such number is below it
kept_below : (segments : List Segment) (so_far : ℕ) → so_far ≤ greatest so_far segments
kept_below [] so_far = omega arith
kept_below (s ∷ rest) so_far = let later : max so_far (segment_end s) ≤ greatest (max so_far (segment_end s)) rest = kept_below rest (max so_far (segment_end s)) in omega arith

each_below : (segments : List Segment) (so_far : ℕ) → All (λ s. segment_end s ≤ greatest so_far segments) segments
each_below [] so_far = λ k d inside. absurd (omega arith)
each_below (s ∷ rest) so_far =
    let here : max so_far (segment_end s) ≤ greatest (max so_far (segment_end s)) rest = kept_below rest (max so_far (segment_end s)) in
    All-cons (λ (t : Segment). segment_end t ≤ greatest so_far (s ∷ rest)) s rest (omega arith) (each_below rest (max so_far (segment_end s)))

least_above : (segments : List Segment) (so_far m : ℕ) → so_far ≤ m → All (λ s. segment_end s ≤ m) segments → greatest so_far segments ≤ m
least_above [] so_far m h all = h
least_above (s ∷ rest) so_far m h all =
    let here : segment_end s ≤ m = all 0 s (omega arith) in
    least_above rest (max so_far (segment_end s)) m (omega arith) (All-tail (λ (t : Segment). segment_end t ≤ m) s rest all)

pub heap_past_segments : HeapStartsPastSegments
heap_past_segments = λ w. record {
  paged = omega arith;
  above = All-weaker (λ (s : Segment). segment_end s ≤ last_end w.image.segments) (λ (s : Segment). segment_end s ≤ heap_start w) (λ s e. omega arith) w.image.segments (each_below w.image.segments 0);
  least = λ m paged all. let last : last_end w.image.segments ≤ m = least_above w.image.segments 0 m (omega arith) all in omega arith;
}
