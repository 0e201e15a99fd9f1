-- The memory that the start regions make is the memory at the start.
use Rattle.std.proofs.Common.{◌≡◌, ℕ, ◌+◌, ◌-◌, ◌≤◌, Bool, true, false, cond, List, [], ◌∷◌, ◌++◌, length, map, replicate, zero, suc, refl, sym, ap, ◌∙◌, inl, inr, arith, append_assoc, length-append, eq-eqb}
use Rattle.std.specs.Prelude.{◌||◌, nat_lt, nat_eq, slice_index, Option, Some, None, find as find_in}
use Rattle.std.specs.Option.{option_map_or}
use Rattle.std.specs.List.{list_any, flat_map, range_with_len, AllByRecursion}
use Rattle.std.specs.Ordering.{nat_cmp}
use Rattle.std.specs.FinMap.{get, find, get-from_entries, same_map, nat_cmp-IsAntisymmetric}
use Rattle.std.specs.Cmp.{nat_cmp_total}
use Rattle.std.proofs.Math.ListN.{get_or-eq_default}
use Rattle.std.proofs.lemmas.List.{get_or-replicate, length-replicate}
use Rattle.std.proofs.lemmas.List.Elements.{recursion_from_All}
use Rattle.std.proofs.lemmas.List.Folds.{list_any-append}
use Rattle.std.proofs.lemmas.Bool.Decides.{nat_tests}
use Rattle.elf_image.specs.declared.program.Segment.{Segment}
use Rattle.elf_image.specs.Image.{IsProgram, IsSegment, holds}
use Rattle.elf_image.specs.Layout.{Setup, mapped, addresses, stack_addresses, start_byte, byte_of, heap_start, stack_start}
use Rattle.flat_machine.specs.declared.regions.Region.{Region}
use Rattle.flat_machine.specs.Memory.{start_memory}
use Rattle.flat_machine.specs.Inner.{has_address, memory_of, found, segment_region, stack_region, zeros_from, start_regions}
use Rattle.flat_machine.proofs.MemoryLemmas.{tied, untied, here, beyond, same_test, get-memory_of}

-- a list of pairs of addresses with what a function gives them
find-graph : (f : ℕ → ℕ) (q : ℕ) (xs : List ℕ) → find nat_cmp q (map (λ a. (a, f a)) xs) ≡ cond (list_any (nat_eq q) xs) (Some (f q)) None
find-graph f q [] = refl
find-graph f q (x ∷ xs) =
    elim (same_test q x) [
      | inl e ↦ let t : nat_eq q x ≡ true = eq-eqb q x e in rw (tied q x e, t) (ap (λ a. Some (f a)) (sym e))
      | inr e ↦ let t : nat_eq q x ≡ false = grind (arith, nat_tests) in rw (untied q x e, t) (find-graph f q xs)
    ]

-- a range has the addresses from its start on
any-range : (q n start : ℕ) → list_any (nat_eq q) (range_with_len start n) ≡ has_address start n q
any-range q zero start = sym (let e : has_address start 0 q ≡ false = grind (arith, nat_tests) in e)
any-range q (suc n) start =
    elim (same_test q start) [
      | inl e ↦ let t : nat_eq q start ≡ true = eq-eqb q start e in rw (t, here q start n e) refl
      | inr e ↦ let t : nat_eq q start ≡ false = grind (arith, nat_tests) in rw (t, any-range q n (start + 1)) (beyond q start n e)
    ]

-- a segment has the addresses of its region
region-holds : (s : Segment) (q : ℕ) → length s.bytes ≤ s.memsz → has_address s.vaddr (length (segment_region s).bytes) q ≡ holds s q
region-holds s q fits =
    let size : length (segment_region s).bytes ≡ s.memsz = simp (length-append, length-replicate) (omega arith) in
    rw size (grind (arith, nat_tests))

-- so many zeros read as zero everywhere
zeros_read : (n i : ℕ) → slice_index (replicate n 0) i ≡ 0
zeros_read n i =
    elim (nat_lt i n) as (λ t. nat_lt i n ≡ t → slice_index (replicate n 0) i ≡ 0) [
      | true ↦ λ t. get_or-replicate n i 0 0 (grind (arith, nat_tests))
      | false ↦ λ t. get_or-eq_default (replicate n 0) 0 (simp length-replicate (grind (arith, nat_tests)))
    ] refl

-- the zeros past the file's bytes are what an index past them reads
padded : (xs : List ℕ) (n i : ℕ) → slice_index (xs ++ replicate n 0) i ≡ slice_index xs i
padded [] n i = zeros_read n i
padded (x ∷ xs) n zero = refl
padded (x ∷ xs) n (suc i) = padded xs n i

-- the byte that the first segment with the address gives it, else 0
abbrev pub segments_byte : List Segment → ℕ → ℕ
segments_byte segments q = option_map_or (λ s. byte_of s q) (find_in (λ s. holds s q) segments) 0

bytes_fit : (s : Segment) → IsSegment s → length s.bytes ≤ s.memsz
bytes_fit s h = h.bytes_fit

-- regions of segments, and others after them
found-segments : (segments : List Segment) (others : List Region) (q : ℕ) → AllByRecursion IsSegment segments
    → found (map segment_region segments ++ others) q ≡ cond (list_any (λ s. holds s q) segments) (Some (segments_byte segments q)) (found others q)
found-segments [] others q all = refl
found-segments (s ∷ ss) others q all =
    rw (region-holds s q (bytes_fit s all.0), padded s.bytes (s.memsz - length s.bytes) (q - s.vaddr))
    (elim (holds s q) as (λ t. cond t (Some (slice_index s.bytes (q - s.vaddr))) (found (map segment_region ss ++ others) q)
    ≡ cond (t || list_any (λ s. holds s q) ss) (Some (option_map_or (λ s. byte_of s q) (cond t (Some s) (find_in (λ s. holds s q) ss)) 0)) (found others q)) [
      | true ↦ refl
      | false ↦ found-segments ss others q all.1
    ])

-- no segment has the address, so none gives it a byte
pub no_byte : (segments : List Segment) (q : ℕ) → list_any (λ s. holds s q) segments ≡ false → segments_byte segments q ≡ 0
no_byte [] q none = refl
no_byte (s ∷ ss) q none =
    (elim (holds s q) as (λ t. (t || list_any (λ s. holds s q) ss) ≡ false → option_map_or (λ s. byte_of s q) (cond t (Some s) (find_in (λ s. holds s q) ss)) 0 ≡ 0) [
      | true ↦ λ e. cc
      | false ↦ λ e. no_byte ss q e
    ]) none

range-holds : (s : Segment) (q : ℕ) → has_address s.vaddr s.memsz q ≡ holds s q
range-holds s q = grind (arith, nat_tests)

any_of_both : (a b c d : Bool) → a ≡ c → b ≡ d → (a || b) ≡ (c || d)
any_of_both a b c d e f = cc

-- an address that some segment has
any-addresses : (segments : List Segment) (q : ℕ) → list_any (nat_eq q) (flat_map addresses segments) ≡ list_any (λ s. holds s q) segments
any-addresses [] q = refl
any-addresses (s ∷ ss) q = list_any-append (nat_eq q) (addresses s) (flat_map addresses ss) ∙ any_of_both _ _ _ _ (any-range q s.memsz s.vaddr ∙ range-holds s q) (any-addresses ss q)

-- the three kinds of region against the three kinds of address
joined : (segment heap stack : Bool) (byte : ℕ) → (segment ≡ false → byte ≡ 0)
    → cond segment (Some byte) (cond heap (Some 0) (cond stack (Some 0) None)) ≡ cond ((segment || heap) || stack) (Some byte) None
joined true heap stack byte e = refl
joined false true stack byte e = rw (e refl) refl
joined false false true byte e = rw (e refl) refl
joined false false false byte e = refl

found-zeros : (start len : ℕ) (others : List Region) (q : ℕ) → found (zeros_from start len ∷ others) q ≡ cond (has_address start len q) (Some 0) (found others q)
found-zeros start len others q = rw (length-replicate {A = ℕ} len 0, zeros_read len (q - start)) refl

-- the regions of stacks, and their addresses
found-stacks : (w : Setup) (from n q : ℕ) → found (map (stack_region w) (range_with_len from n)) q
    ≡ cond (list_any (λ tile. has_address (stack_start w tile) w.config.stack_bytes q) (range_with_len from n)) (Some 0) None
found-stacks w from zero q = refl
found-stacks w from (suc n) q =
    found-zeros (stack_start w from) w.config.stack_bytes (map (stack_region w) (range_with_len (from + 1) n)) q
    ∙ ap (cond {A = Option ℕ} (has_address (stack_start w from) w.config.stack_bytes q) (Some 0)) (found-stacks w (from + 1) n q)
    ∙ either (has_address (stack_start w from) w.config.stack_bytes q) _
  where
    either : (a b : Bool) → cond {A = Option ℕ} a (Some 0) (cond b (Some 0) None) ≡ cond (a || b) (Some 0) None
    either true b = refl
    either false b = refl

any-stacks : (w : Setup) (from n q : ℕ) → list_any (nat_eq q) (flat_map (stack_addresses w) (range_with_len from n))
    ≡ list_any (λ tile. has_address (stack_start w tile) w.config.stack_bytes q) (range_with_len from n)
any-stacks w from zero q = refl
any-stacks w from (suc n) q =
    list_any-append (nat_eq q) (stack_addresses w from) (flat_map (stack_addresses w) (range_with_len (from + 1) n))
    ∙ any_of_both _ _ _ _ (any-range q w.config.stack_bytes (stack_start w from)) (any-stacks w (from + 1) n q)

-- which addresses are mapped, and what the memory at the start has there
pub mapped_where : (w : Setup) (q : ℕ) → list_any (nat_eq q) (mapped w)
    ≡ ((list_any (λ s. holds s q) w.image.segments || has_address (heap_start w) w.config.heap_bytes q) || list_any (λ tile. has_address (stack_start w tile) w.config.stack_bytes q) (range_with_len 0 w.config.tiles))
unfolding mapped
mapped_where w q =
    let heap : ℕ = w.config.heap_bytes in
    let tiles : List ℕ = range_with_len 0 w.config.tiles in
    let segments = w.image.segments in
    list_any-append (nat_eq q) (flat_map addresses segments ++ range_with_len (heap_start w) heap) (flat_map (stack_addresses w) tiles)
    ∙ any_of_both _ _ _ _
    (list_any-append (nat_eq q) (flat_map addresses segments) (range_with_len (heap_start w) heap)
    ∙ any_of_both _ _ _ _ (any-addresses segments q) (any-range q heap (heap_start w)))
    (any-stacks w 0 w.config.tiles q)

pub get-mapped : (w : Setup) (q : ℕ) → get (start_memory w) q ≡ cond (list_any (nat_eq q) (mapped w)) (Some (start_byte w q)) None
unfolding start_memory
get-mapped w q = get-from_entries nat_cmp_total _ q ∙ find-graph (start_byte w) q (mapped w)

-- both memories have the same byte at each address
pub get-start : (w : Setup) (q : ℕ) → AllByRecursion IsSegment w.image.segments → get (memory_of (start_regions w)) q ≡ get (start_memory w) q
get-start w q all =
    let heap : ℕ = w.config.heap_bytes in
    let tiles : List ℕ = range_with_len 0 w.config.tiles in
    let segments = w.image.segments in
    let stacks : List Region = map (stack_region w) tiles in
    let is_segment : Bool = list_any (λ s. holds s q) segments in
    let is_heap : Bool = has_address (heap_start w) heap q in
    let is_stack : Bool = list_any (λ tile. has_address (stack_start w tile) w.config.stack_bytes q) tiles in
    let regions : found (start_regions w) q ≡ cond is_segment (Some (segments_byte segments q)) (cond is_heap (Some 0) (cond is_stack (Some 0) None)) =
    ap (λ rs. found rs q) (append_assoc (map segment_region segments) (zeros_from (heap_start w) heap ∷ []) stacks)
    ∙ found-segments segments (zeros_from (heap_start w) heap ∷ stacks) q all
    ∙ ap (cond is_segment (Some (segments_byte segments q)))
    (found-zeros (heap_start w) heap stacks q ∙ ap (cond is_heap (Some 0)) (found-stacks w 0 w.config.tiles q)) in
    let tests : list_any (nat_eq q) (mapped w) ≡ ((is_segment || is_heap) || is_stack) = mapped_where w q in
    get-memory_of (start_regions w) q ∙ regions
    ∙ joined is_segment is_heap is_stack (segments_byte segments q) (no_byte segments q)
    ∙ ap (λ t. cond t (Some (start_byte w q)) None) (sym tests)
    ∙ sym (get-mapped w q)

pub start_memory_of : (w : Setup) → IsProgram w.image → memory_of (start_regions w) ≡ start_memory w
start_memory_of w h = same_map nat_cmp_total nat_cmp-IsAntisymmetric _ _ (λ q. get-start w q (recursion_from_All IsSegment w.image.segments h.each))
