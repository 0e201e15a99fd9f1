-- What a file that has no fault holds is a program.
use Rattle.std.proofs.Common.{◌≡◌, ◌+◌, ◌%◌, ◌≤◌, ◌<◌, ◌==◌, not, ℕ, Bool, false, List, All, length, map, take, drop, get_or, arith, refl, subst, Option, Some, None, inl, inr}
use Rattle.std.specs.List.{list_any}
use Rattle.std.specs.Option.{option_or}
use Rattle.std.proofs.lemmas.Bool.{cases_Bool, both_ways, or_parts}
use Rattle.std.proofs.lemmas.Bool.Decides.{nat_tests}
use Rattle.std.proofs.lemmas.List.{length-take, length-map}
use Rattle.std.proofs.lemmas.List.Elements.{All-map}
use Rattle.std.proofs.lemmas.List.Folds.{list_any_at}
use Rattle.elf_image.specs.declared.program.Segment.{Segment}
use Rattle.elf_image.specs.declared.headers.ProgramHeader.{ProgramHeader}
use Rattle.elf_image.specs.declared.refusal.ImageFault.{ImageFault}
use Rattle.std.proofs.lemmas.List.FromFn.{length-map-range_with_len}
use Rattle.std.proofs.lemmas.List.Filters.{length-filter_both}
use Rattle.elf_image.specs.Header.{headers, header_at, loads, e_entry, e_phnum}
use Rattle.elf_image.specs.Image.{program, segment_of, first_of, first_fault, table_refusals, program_refusals, has_wrong_table, has_wrong_headers, has_wrong_size, IsProgram}
use Rattle.elf_image.proofs.Programs.{not_first, passes_is_program}

neither : (o p : Option ImageFault) → option_or o p ≡ None → (o ≡ None) × (p ≡ None)
neither None p e = (refl, e)
neither (Some fault) p e = cc

later_none : (bytes : List ℕ) → first_fault bytes ≡ None → (first_of table_refusals bytes ≡ None) × (first_of program_refusals (program bytes) ≡ None)
later_none bytes none = neither _ _ (neither _ _ none).1

pub sizes_right : (bytes : List ℕ) → first_fault bytes ≡ None → list_any (has_wrong_size bytes) (loads bytes) ≡ false
unfolding first_of table_refusals has_wrong_headers
sizes_right bytes none =
    let right = (not_first _ _ _ (later_none bytes none).0).0 in
    (or_parts (has_wrong_table bytes) (list_any (has_wrong_size bytes) (loads bytes)) right).1

few_loads : (bytes : List ℕ) → first_fault bytes ≡ None → length (loads bytes) ≤ 64
unfolding first_of table_refusals has_wrong_headers
few_loads bytes none =
    let right = (not_first _ _ _ (later_none bytes none).0).0 in
    let table = (or_parts (has_wrong_table bytes) (list_any (has_wrong_size bytes) (loads bytes)) right).0 in
    let count : e_phnum bytes ≤ 64 = grind (arith, nat_tests) in
    let all : length (headers bytes) ≡ e_phnum bytes = length-map-range_with_len (header_at bytes) 0 (e_phnum bytes) in
    omega (arith, length-filter_both (λ h. h.kind == 1) (λ h. not (h.kind == 1)) (λ h. refl {a = not (h.kind == 1)}) (headers bytes))

-- what no element passes each one fails
fails_at : (p : ProgramHeader → Bool) (hs : List ProgramHeader) → list_any p hs ≡ false → (k : ℕ) (d : ProgramHeader) → k < length hs → p (get_or hs k d) ≡ false
fails_at p hs none k d inside = elim (cases_Bool (p (get_or hs k d))) [
  | inl t ↦ absurd (both_ways (list_any p hs) none (list_any_at p hs k d inside t))
  | inr f ↦ f
]

pub each_fits : (bytes : List ℕ) (loaded : List ProgramHeader) → first_fault bytes ≡ None → loaded ≡ loads bytes → All (λ h. h.offset + h.filesz ≤ length bytes) loaded
each_fits bytes loaded none same = λ k d inside.
    let size : list_any (has_wrong_size bytes) loaded ≡ false = rw same (sizes_right bytes none) in
    fits (get_or loaded k d) (fails_at (has_wrong_size bytes) loaded size k d inside)
  where
    fits : (h : ProgramHeader) → has_wrong_size bytes h ≡ false → h.offset + h.filesz ≤ length bytes
    fits h right = grind (arith, nat_tests)

pub is_program : (bytes : List ℕ) → first_fault bytes ≡ None → IsProgram (program bytes)
is_program bytes none =
    let hs = loads bytes in
    let size = sizes_right bytes none in
    passes_is_program (program bytes)
    (record {
      few = rw length-map (few_loads bytes none);
      bytes_fit = All-map (λ (s : Segment). length s.bytes ≤ s.memsz) (segment_of bytes) hs (λ k d inside. fits_memory (get_or hs k d) (fails_at (has_wrong_size bytes) hs size k d inside));
      three_flags = All-map (λ (s : Segment). s.flags < 8) (segment_of bytes) hs (λ k d inside. three (get_or hs k d));
    })
    (later_none bytes none).1
  where
    fits_memory : (h : ProgramHeader) → has_wrong_size bytes h ≡ false → length (take h.filesz (drop h.offset bytes)) ≤ h.memsz
    fits_memory h right = rw length-take (grind (arith, nat_tests))

    three : (h : ProgramHeader) → h.flags % 8 < 8
    three h = omega arith

-- the program that is made of its parts
pub made_is : (bytes : List ℕ) (entry : ℕ) (segments : List Segment) (loaded : List ProgramHeader) → first_fault bytes ≡ None →
    entry ≡ e_entry bytes → segments ≡ map (segment_of bytes) loaded → loaded ≡ loads bytes →
    IsProgram (record { entry = entry; segments = segments })
made_is bytes entry segments loaded none at made same =
    let parts : program bytes ≡ record { entry = entry; segments = segments } = rw (at, made, same) in
    subst IsProgram parts (is_program bytes none)
