-- A range in one segment that grants a right to it.
use Rattle.std.proofs.Common.{◌≡◌, ◌+◌, ◌<◌, ◌≤◌, ◌&&◌, ◌||◌, ℕ, zero, suc, Bool, true, false, List, [], ◌∷◌, arith, refl, nat_le, nat_lt}
use Rattle.std.specs.List.{list_any}
use Rattle.std.proofs.lemmas.Bool.Decides.{nat_tests}
use Rattle.elf_image.specs.declared.address_map.Right.{Right}
use Rattle.elf_image.specs.declared.address_map.Right.TheVariants.{Read, Write, ReadWrite}
use Rattle.elf_image.specs.declared.program.Segment.{Segment}
use Rattle.elf_image.specs.Image.{some_reads, some_writes, holds, grants_read, grants_write}
use Rattle.elf_image.specs.Inner.{grants, grants_range}
use Rattle.elf_image.specs.Layout.{Setup, is_free, has_right, may}

or_mono : (a b c d : Bool) → (a ≡ true → c ≡ true) → (b ≡ true → d ≡ true) → (a || b) ≡ true → (c || d) ≡ true
or_mono true b c d f g e = rw (f refl) refl
or_mono false b true d f g e = refl
or_mono false b false d f g e = g e

any_mono : {X : Type 0} (p q : X → Bool) → ((x : X) → p x ≡ true → q x ≡ true) → (xs : List X) → list_any p xs ≡ true → list_any q xs ≡ true
any_mono p q f [] e = e
any_mono p q f (x ∷ xs) e = or_mono (p x) (list_any p xs) (q x) (list_any q xs) (f x) (any_mono p q f xs) e

or_right : (a b : Bool) → b ≡ true → (a || b) ≡ true
or_right true b e = refl
or_right false b e = e

-- a byte of the range, in the segment
in_range : (right granted : Bool) (vaddr memsz a size k : ℕ) → a ≤ k → k < a + size → (right ≡ true → granted ≡ true)
    → (right && (nat_le vaddr a && nat_le (a + size) (vaddr + memsz))) ≡ true → (granted && (nat_le vaddr k && nat_lt k (vaddr + memsz))) ≡ true
in_range true granted vaddr memsz a size k from below gives e =
    let inside : (nat_le vaddr k && nat_lt k (vaddr + memsz)) ≡ true = grind (arith, nat_tests) in
    rw (gives refl, inside) refl
in_range false granted vaddr memsz a size k from below gives e = cc (e)

and_first : (a b : Bool) → (a && b) ≡ true → a ≡ true
and_first true b e = refl
and_first false b e = e

and_second : (a b : Bool) → (a && b) ≡ true → b ≡ true
and_second true b e = e
and_second false b e = cc (e)

module _ (w : Setup) (a size k : ℕ) (from : a ≤ k) (below : k < a + size) where
  reads : (right : Right) → ((s : Segment) → grants right s ≡ true → grants_read s ≡ true) → list_any (grants_range right a size) w.image.segments ≡ true → some_reads w.image k ≡ true
  reads right gives e =
      any_mono (grants_range right a size) (λ s. grants_read s && holds s k) (λ s. in_range (grants right s) (grants_read s) s.vaddr s.memsz a size k from below (gives s)) w.image.segments e

  writes : (right : Right) → ((s : Segment) → grants right s ≡ true → grants_write s ≡ true) → list_any (grants_range right a size) w.image.segments ≡ true → some_writes w.image k ≡ true
  writes right gives e =
      any_mono (grants_range right a size) (λ s. grants_write s && holds s k) (λ s. in_range (grants right s) (grants_write s) s.vaddr s.memsz a size k from below (gives s)) w.image.segments e

  byte_granted : (right : Right) → list_any (grants_range right a size) w.image.segments ≡ true → has_right w right k ≡ true
  byte_granted Read e = or_right (is_free w k) (some_reads w.image k) (reads Read (λ s g. g) e)
  byte_granted Write e = or_right (is_free w k) (some_writes w.image k) (writes Write (λ s g. g) e)
  byte_granted ReadWrite e =
      rw (
        or_right (is_free w k) (some_reads w.image k) (reads ReadWrite (λ s. and_first (grants_read s) (grants_write s)) e),
        or_right (is_free w k) (some_writes w.image k) (writes ReadWrite (λ s. and_second (grants_read s) (grants_write s)) e),
      ) refl

-- each byte of a range has the right
pub each_granted : (w : Setup) (right : Right) (a size : ℕ) → ((k : ℕ) → a ≤ k → k < a + size → has_right w right k ≡ true) → may w a size right ≡ true
each_granted w right a zero each = refl
each_granted w right a (suc n) each =
    rw (each a (omega arith) (omega arith), each_granted w right (a + 1) n (λ k from below. each k (omega arith) (omega arith))) refl

pub range_granted : (w : Setup) (right : Right) (a size : ℕ) → list_any (grants_range right a size) w.image.segments ≡ true → may w a size right ≡ true
range_granted w right a size e = each_granted w right a size (λ k from below. byte_granted w a size k from below right e)
