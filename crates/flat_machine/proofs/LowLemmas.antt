-- No region has an address from 2^64 on: at the start, and whatever is written.
use Rattle.std.proofs.Common.{◌≡◌, ℕ, ◌+◌, ◌-◌, ◌*◌, ◌^◌, ◌≤◌, false, zero, suc, List, [], ◌∷◌, ◌++◌, length, map, replicate, refl, ap, ◌∙◌, arith, length-append, length-set, inl, inr}
use Rattle.std.specs.Prelude.{slice_set, unwrap_or, None}
use Rattle.std.specs.List.{range_with_len, AllByRecursion}
use Rattle.std.proofs.Math.Nat.{mul-le-mul_right}
use Rattle.std.proofs.lemmas.Bool.{cases_Bool}
use Rattle.std.proofs.lemmas.Bool.Decides.{nat_tests}
use Rattle.std.proofs.lemmas.List.{length-replicate}
use Rattle.std.proofs.lemmas.List.Elements.{recursion_from_All}
use Rattle.sim_base.specs.Settings.{IsChecked}
use Rattle.sim_base.proofs.CheckedSettings.{in_range}
use Rattle.elf_image.specs.declared.program.Segment.{Segment}
use Rattle.elf_image.specs.Image.{IsProgram, IsSegment}
use Rattle.elf_image.specs.Layout.{Setup, heap_start}
use Rattle.flat_machine.specs.declared.regions.Region.{Region}
use Rattle.flat_machine.specs.Memory.{byte_at}
use Rattle.flat_machine.specs.Inner.{has_address, memory_of, found, with_byte_in, segment_region, stack_region, zeros_from, start_regions, AreLow}
use Rattle.flat_machine.proofs.MemoryLemmas.{get-memory_of}

-- nothing is there past all addresses
none_found : (rs : List Region) (address : ℕ) → AreLow rs → 2 ^ 64 ≤ address → found rs address ≡ None
none_found [] address low past = refl
none_found (r ∷ rs) address low past =
    let first : r.start + length r.bytes ≤ 2 ^ 64 = low.0 in
    let outside : has_address r.start (length r.bytes) address ≡ false = grind (arith, nat_tests) in
    rw outside (none_found rs address low.1 past)

pub nothing_past : (rs : List Region) (address : ℕ) → AreLow rs → 2 ^ 64 ≤ address → byte_at (memory_of rs) address ≡ 0
nothing_past rs address low past = ap (λ o. unwrap_or o 0) (get-memory_of rs address ∙ none_found rs address low past)

-- a byte is written
pub low-with_byte_in : (rs : List Region) (address byte : ℕ) → AreLow rs → AreLow (with_byte_in rs address byte)
low-with_byte_in [] address byte low = tt
low-with_byte_in (r ∷ rs) address byte low =
    let size : length (slice_set r.bytes (address - r.start) byte) ≡ length r.bytes = length-set r.bytes (address - r.start) byte in
    elim (cases_Bool (has_address r.start (length r.bytes) address)) [
      | inl here ↦ rw here (omega (arith, size, low.0), low.1)
      | inr other ↦ rw other (low.0, low-with_byte_in rs address byte low.1)
    ]

-- the start
low-append : (a b : List Region) → AreLow a → AreLow b → AreLow (a ++ b)
low-append [] b low rest = rest
low-append (r ∷ a) b low rest = (low.0, low-append a b low.1 rest)

segments_low : (segments : List Segment) → AllByRecursion IsSegment segments → AreLow (map segment_region segments)
segments_low [] each = tt
segments_low (s ∷ segments) each =
    let first : IsSegment s = each.0 in
    let fit = first.bytes_fit in
    let end = first.low_end in
    let size : length (segment_region s).bytes ≡ s.memsz = length-append s.bytes (replicate (s.memsz - length s.bytes) 0) ∙ ap (λ n. length s.bytes + n) (length-replicate (s.memsz - length s.bytes) 0) ∙ omega (arith, fit) in
    (omega (arith, size, end), segments_low segments each.1)

zeros_low : (start len : ℕ) → start + len ≤ 2 ^ 64 → AreLow (zeros_from start len ∷ [])
zeros_low start len low = (omega (arith, low, length-replicate {A = ℕ} len 0), tt)

stacks_low : (w : Setup) (from n : ℕ) → from + n ≤ 64 → heap_start w ≤ 2 ^ 32 → w.config.heap_bytes ≤ 67108864 → w.config.stack_bytes ≤ 1048576 → AreLow (map (stack_region w) (range_with_len from n))
stacks_low w from zero few low heap stack = tt
stacks_low w from (suc n) few low heap stack =
    let steps : from * (w.config.stack_bytes + 4096) ≤ 64 * (w.config.stack_bytes + 4096) = mul-le-mul_right (w.config.stack_bytes + 4096) (omega (arith, few)) in
    (omega (arith, steps, low, heap, stack, length-replicate {A = ℕ} w.config.stack_bytes 0), stacks_low w (from + 1) n (omega (arith, few)) low heap stack)

pub start_low : (w : Setup) → IsProgram w.image → IsChecked w.config → heap_start w ≤ 2 ^ 32 → AreLow (start_regions w)
start_low w program checked low =
    let range = in_range w.config checked in
    low-append (map segment_region w.image.segments ++ zeros_from (heap_start w) w.config.heap_bytes ∷ []) (map (stack_region w) (range_with_len 0 w.config.tiles))
    (low-append (map segment_region w.image.segments) (zeros_from (heap_start w) w.config.heap_bytes ∷ []) (segments_low w.image.segments (recursion_from_All IsSegment w.image.segments program.each))
    (zeros_low (heap_start w) w.config.heap_bytes (omega (arith, low, range.heap_bytes))))
    (stacks_low w 0 w.config.tiles (omega (arith, range.tiles)) low range.heap_bytes range.stack_bytes)
