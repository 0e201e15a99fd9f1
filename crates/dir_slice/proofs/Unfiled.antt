-- A line that no file has a byte of is zero at the start.
use Rattle.std.proofs.Common.{◌≡◌, ℕ, ◌+◌, ◌-◌, ◌*◌, ◌/◌, ◌≤◌, ◌<◌, ◌&&◌, Bool, true, false, List, [], ◌∷◌, length, map, replicate, zero, suc, refl, sym, ap, ◌∙◌, inl, inr, arith, eq-eqb}
use Rattle.std.specs.Prelude.{◌||◌, nat_eq, nat_le, nat_lt, find}
use Rattle.std.specs.Option.{option_map_or}
use Rattle.std.specs.List.{range_with_len, flat_map}
use Rattle.std.proofs.Math.ListN.{get_or-eq_default}
use Rattle.std.proofs.lemmas.Bool.Decides.{nat_tests}
use Rattle.std.proofs.lemmas.List.Folds.{list_any-append}
use Rattle.sim_base.specs.Numbering.{home_of}
use Rattle.elf_image.specs.declared.program.Segment.{Segment}
use Rattle.elf_image.specs.Image.{holds}
use Rattle.elf_image.specs.Layout.{Setup, byte_of, start_byte, initial_line, initial_bytes}
use Rattle.dir_slice.specs.Line.{fresh}
use Rattle.dir_slice.specs.Inner.{has}
use Rattle.dir_slice.specs.Laws.{StartsAsTheImage}
use Rattle.dir_slice.specs.Directory.{file_lines, zero_line}
use Rattle.std.proofs.lemmas.Bool.{cases_Bool}
use Rattle.dir_slice.proofs.Starts.{any-range, get-start}

-- a segment gives 0 to each byte of a line that isn't of its file
past_file : (s : Segment) (line address : ℕ) → has (file_lines s) line ≡ false → address / 64 ≡ line → holds s address ≡ true → byte_of s address ≡ 0
past_file s line address none at held =
    elim (cases_Bool (nat_lt (address - s.vaddr) (length s.bytes))) [
      | inl t ↦
          let low : s.vaddr ≤ address = grind (arith, nat_tests) in
          let size : address - s.vaddr < length s.bytes = grind (arith, nat_tests) in
          let some : nat_eq (length s.bytes) 0 ≡ false = grind (arith, nat_tests) in
          let first : ℕ = s.vaddr / 64 in
          let last : ℕ = (s.vaddr + length s.bytes - 1) / 64 in
          let from : first ≤ line = omega arith in
          let upto : line ≤ last = omega arith in
          let there : (nat_le first line && nat_lt line (first + (last - first + 1))) ≡ true = grind (arith, nat_tests) in
          let file : has (file_lines s) line ≡ true = rw some (any-range line (last - first + 1) first ∙ there) in
          cc
      | inr t ↦ get_or-eq_default s.bytes 0 (grind (arith, nat_tests))
    ]

neither_first : (a b : Bool) → (a || b) ≡ false → a ≡ false
neither_first true b e = e
neither_first false b e = refl

neither_second : (a b : Bool) → (a || b) ≡ false → b ≡ false
neither_second true b e = cc
neither_second false b e = e

no_byte : (segments : List Segment) (line address : ℕ) → has (flat_map file_lines segments) line ≡ false → address / 64 ≡ line
    → option_map_or (λ s. byte_of s address) (find (λ s. holds s address) segments) 0 ≡ 0
no_byte [] line address none at = refl
no_byte (s ∷ ss) line address none at =
    let e : (has (file_lines s) line || has (flat_map file_lines ss) line) ≡ false = sym (list_any-append (nat_eq line) (file_lines s) (flat_map file_lines ss)) ∙ none in
    elim (cases_Bool (holds s address)) [
      | inl t ↦ rw t (past_file s line address (neither_first _ _ e) at t)
      | inr t ↦ rw t (no_byte ss line address (neither_second _ _ e) at)
    ]

zeros : (f : ℕ → ℕ) (n start : ℕ) → ((k : ℕ) → start ≤ k → k < start + n → f k ≡ 0) → map f (range_with_len start n) ≡ replicate n 0
zeros f zero start all = refl
zeros f (suc n) start all =
    let first : f start ≡ 0 = all start (omega arith) (omega arith) in
    rw first (ap (λ rest. 0 ∷ rest) (zeros f n (start + 1) (λ k low high. all k (omega arith) (omega arith))))

unfiled : (w : Setup) (line : ℕ) → has (flat_map file_lines w.image.segments) line ≡ false → initial_line w line ≡ zero_line
unfolding initial_bytes zero_line
unfiled w line none = ap (λ bytes. record { bytes = bytes }) (zeros (λ place. start_byte w (line * 64 + place)) 64 0 (λ k low high. no_byte w.image.segments line (line * 64 + k) none (omega arith)))

pub starts_as_the_image : StartsAsTheImage
starts_as_the_image w tile line homed =
    let t : nat_eq (home_of w.config line) tile ≡ true = eq-eqb _ _ homed in
    elim (cases_Bool (has (flat_map file_lines w.image.segments) line)) [
      | inl h ↦ rw (get-start, t, h) refl
      | inr h ↦ rw (get-start, t, h) (ap fresh (sym (unfiled w line h)))
    ]
