-- A range of addresses that passes 2^64 has no right, since no byte there has one.
use Rattle.std.proofs.Common.{◌≡◌, ◌+◌, ◌*◌, ◌-◌, ◌^◌, ◌<◌, ◌≤◌, ◌&&◌, ℕ, Bool, false, List, [], ◌∷◌, All, arith, refl, ap, sym, suc, zero, length, map, replicate, find, get_or, Option, None}
use Rattle.std.specs.List.{list_any, range_with_len}
use Rattle.std.specs.Option.{option_map_or}
use Rattle.std.proofs.lemmas.List.Elements.{All-tail}
use Rattle.std.proofs.lemmas.List.FromFn.{length-range_with_len, get_or-range_with_len, fill_by_all}
use Rattle.std.proofs.lemmas.List.Folds.{list_all_at}
use Rattle.std.proofs.lemmas.Grind.{common_steps}
use Rattle.elf_image.specs.declared.program.Segment.{Segment}
use Rattle.elf_image.specs.declared.address_map.Layout.{Layout}
use Rattle.elf_image.specs.declared.address_map.Right.{Right}
use Rattle.elf_image.specs.declared.address_map.Right.TheVariants.{Read, Write, ReadWrite}
use Rattle.elf_image.specs.Image.{IsSegment, IsProgram, segment_end, holds, grants_read, grants_write}
use Rattle.elf_image.specs.Layout.{Setup, IsLaidOut, layout_of, is_free, is_readable, is_writable, has_right, may, start_byte, byte_of, initial_bytes}
use Rattle.elf_image.proofs.Stacks.{above_stacks}

-- no segment has an address from 2^32 on
not_held : (s : Segment) (a : ℕ) → IsSegment s → 2 ^ 32 ≤ a → holds s a ≡ false
not_held s a is h = let low : segment_end s ≤ 2 ^ 32 = is.low_end in grind (arith, common_steps)

pub none_has : (test : Segment → Bool) (segments : List Segment) (a : ℕ) → All IsSegment segments → 2 ^ 32 ≤ a → list_any (λ s. test s && holds s a) segments ≡ false
none_has test [] a all h = refl
none_has test (s ∷ rest) a all h =
    let here : holds s a ≡ false = not_held s a (all 0 s (omega arith)) h in
    let there : list_any (λ t. test t && holds t a) rest ≡ false = none_has test rest a (All-tail IsSegment s rest all) h in
    grind (arith, common_steps)

-- neither has the heap window nor a stack one from 2^33 on
not_free : (w : Setup) (l : Layout) (a : ℕ) → IsLaidOut w l → 2 ^ 33 ≤ a → is_free w a ≡ false
not_free w l a laid h =
    let same : l.heap_start ≡ (layout_of w).heap_start = ap (λ (m : Layout). m.heap_start) laid.laid in
    let low : l.heap_start ≤ 2 ^ 32 = laid.low in
    let heap : w.config.heap_bytes ≤ 2 ^ 26 = laid.heap in
    rw (above_stacks w l a laid h) (grind (arith, common_steps))

not_readable : (w : Setup) (l : Layout) (a : ℕ) → IsLaidOut w l → 2 ^ 33 ≤ a → is_readable w a ≡ false
not_readable w l a laid h = rw (not_free w l a laid h) (none_has grants_read w.image.segments a laid.program.each (omega arith))

not_writable : (w : Setup) (l : Layout) (a : ℕ) → IsLaidOut w l → 2 ^ 33 ≤ a → is_writable w a ≡ false
not_writable w l a laid h = rw (not_free w l a laid h) (none_has grants_write w.image.segments a laid.program.each (omega arith))

no_right : (w : Setup) (l : Layout) (right : Right) (a : ℕ) → IsLaidOut w l → 2 ^ 33 ≤ a → has_right w right a ≡ false
no_right w l Read a laid h = not_readable w l a laid h
no_right w l Write a laid h = not_writable w l a laid h
no_right w l ReadWrite a laid h = ap (λ b. b && is_writable w a) (not_readable w l a laid h)

pub passes_none : (w : Setup) (l : Layout) (right : Right) (addr size : ℕ) → IsLaidOut w l → addr < 2 ^ 64 → 2 ^ 64 ≤ addr + size → may w addr size right ≡ false
passes_none w l right addr size laid inside passes =
    let last : size - 1 < size = omega arith in
    list_all_at (has_right w right) (range_with_len addr size) (size - 1) 0
    (rw length-range_with_len last)
    (rw (get_or-range_with_len addr size (size - 1) 0 last) (no_right w l right (addr + (size - 1)) laid (omega arith)))

-- from 2^32 on every start byte is 0
no_byte : (w : Setup) (a : ℕ) → IsProgram w.image → 2 ^ 32 ≤ a → start_byte w a ≡ 0
no_byte w a is high = ap (λ (o : Option Segment). option_map_or (λ s. byte_of s a) o 0) (none_found w.image.segments is.each)
  where
    none_found : (segments : List Segment) → All IsSegment segments → find (λ s. holds s a) segments ≡ None
    none_found [] all = refl
    none_found (s ∷ rest) all = rw (not_held s a (all 0 s (omega arith)) high) (none_found rest (All-tail IsSegment s rest all))

zeros_from : (w : Setup) (a from n : ℕ) → IsProgram w.image → 2 ^ 32 ≤ a → map (λ place. start_byte w (a + place)) (range_with_len from n) ≡ replicate n 0
zeros_from w a from zero is high = refl
zeros_from w a from (suc n) is high = rw (no_byte w (a + from) is (omega arith), zeros_from w a (from + 1) n is high)

pub zero_line : (w : Setup) (l : Layout) (line : ℕ) → IsLaidOut w l → 2 ^ 26 ≤ line → replicate 64 0 ≡ initial_bytes w line
unfolding initial_bytes
zero_line w l line laid high = sym (zeros_from w (line * 64) 0 64 laid.program (omega arith))

-- the bytes that are written one after the other are the line
pub filled_line : (w : Setup) (line : ℕ) (bytes : List ℕ) → length bytes ≡ 64 → ((k : ℕ) → k < 64 → get_or bytes k 0 ≡ start_byte w (line * 64 + k)) → bytes ≡ initial_bytes w line
unfolding initial_bytes
filled_line w line bytes len each = fill_by_all (λ place. start_byte w (line * 64 + place)) bytes 64 0 len each
