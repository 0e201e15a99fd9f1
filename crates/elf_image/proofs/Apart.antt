-- Segments that don't overlap: what one of them has at an address, no other has.
use Rattle.std.proofs.Common.{◌≡◌, ℕ, Bool, true, false, List, [], ◌∷◌, cond, refl, sym, ap, ◌∙◌, arith, map, find, Some, None, ◌&&◌, ◌||◌}
use Rattle.std.specs.List.{list_any, list_all, range_with_len}
use Rattle.std.proofs.lemmas.Bool.{and_parts}
use Rattle.std.proofs.lemmas.Bool.Decides.{nat_tests}
use Rattle.byteorder.specs.Endian.{little_number}
use Rattle.elf_image.specs.declared.program.Segment.{Segment}
use Rattle.elf_image.specs.Image.{IsProgram, holds, share_byte, overlaps, grants_execute}
use Rattle.elf_image.specs.Layout.{Setup, start_byte, byte_of, holds_word, is_executable, fetch}

-- what is found passes no test that none passes
found_fails : (p q : Segment → Bool) (segments : List Segment) (s : Segment) → list_any q segments ≡ false → find p segments ≡ Some s → q s ≡ false
found_fails p q [] s none e = cc
found_fails p q (t ∷ rest) s none e = by_test (λ h. found_fails p q rest s h) (p t) (q t) refl none e where
  by_test : (list_any q rest ≡ false → find p rest ≡ Some s → q s ≡ false) → (b c : Bool) → q t ≡ c → (c || list_any q rest) ≡ false → cond b (Some t) (find p rest) ≡ Some s → q s ≡ false
  by_test later b true is none e = cc
  by_test later true false is none e = let same : t ≡ s = cc in ap q (sym same) ∙ is
  by_test later false false is none e = later none e

-- two segments that share no byte don't both have an address
not_both : (t s : Segment) (a : ℕ) → share_byte t s ≡ false → holds s a ≡ true → holds t a ≡ false
not_both t s a apart h = grind (arith, nat_tests)

-- a segment that is found by any test is the first that has an address of its own
found_alone : (p : Segment → Bool) (segments : List Segment) (s : Segment) (a : ℕ) → overlaps segments ≡ false → find p segments ≡ Some s → holds s a ≡ true
    → find (λ t. holds t a) segments ≡ Some s
found_alone p [] s a apart e h = cc
found_alone p (t ∷ rest) s a apart e h = by_test (λ d f. found_alone p rest s a d f h) (p t) (list_any (share_byte t) rest) refl apart e where
  by_test : (overlaps rest ≡ false → find p rest ≡ Some s → find (λ x. holds x a) rest ≡ Some s) → (b c : Bool) → list_any (share_byte t) rest ≡ c → (c || overlaps rest) ≡ false → cond b (Some t) (find p rest) ≡ Some s
      → cond (holds t a) (Some t) (find (λ x. holds x a) rest) ≡ Some s
  by_test later b true is apart e = cc
  by_test later true false is apart e = let same : t ≡ s = cc in rw (same, h) refl
  by_test later false false is apart e =
      let away : holds t a ≡ false = not_both t s a (found_fails p (share_byte t) rest s is e) h in
      rw away (later apart e)

-- its bytes are those of the start
same_byte : (w : Setup) (p : Segment → Bool) (s : Segment) (a : ℕ) → IsProgram w.image → find p w.image.segments ≡ Some s → holds s a ≡ true → byte_of s a ≡ start_byte w a
same_byte w p s a is e h = rw (found_alone p w.image.segments s a is.apart e h) refl

same_bytes : (w : Setup) (p : Segment → Bool) (s : Segment) (addresses : List ℕ) → IsProgram w.image → find p w.image.segments ≡ Some s
    → list_all (holds s) addresses ≡ true → map (byte_of s) addresses ≡ map (start_byte w) addresses
same_bytes w p s [] is e h = refl
same_bytes w p s (a ∷ rest) is e h =
    let parts = and_parts (holds s a) (list_all (holds s) rest) h in
    rw (same_byte w p s a is e parts.0, same_bytes w p s rest is e parts.1) refl

-- whether some segment passes a test that one is found by
any_found : (p : Segment → Bool) (segments : List Segment) (s : Segment) → find p segments ≡ Some s → list_any p segments ≡ true
any_found p [] s e = cc
any_found p (t ∷ rest) s e = by_test (any_found p rest s) (p t) e where
  by_test : (find p rest ≡ Some s → list_any p rest ≡ true) → (b : Bool) → cond b (Some t) (find p rest) ≡ Some s → (b || list_any p rest) ≡ true
  by_test later true e = refl
  by_test later false e = later e

none_found : (p : Segment → Bool) (segments : List Segment) → find p segments ≡ None → list_any p segments ≡ false
none_found p [] e = refl
none_found p (t ∷ rest) e = by_test (none_found p rest) (p t) e where
  by_test : (find p rest ≡ None → list_any p rest ≡ false) → (b : Bool) → cond b (Some t) (find p rest) ≡ None → (b || list_any p rest) ≡ false
  by_test later true e = cc
  by_test later false e = later e

-- the word of the executable segment that has it is the one that is fetched
pub fetched : (w : Setup) (pc : ℕ) (s : Segment) → IsProgram w.image → find (λ t. grants_execute t && holds_word t pc) w.image.segments ≡ Some s → holds_word s pc ≡ true
    → Some (little_number 4 (map (byte_of s) (range_with_len pc 4))) ≡ fetch w pc
fetched w pc s is e h =
    let some : is_executable w.image pc ≡ true = any_found (λ t. grants_execute t && holds_word t pc) w.image.segments s e in
    rw some (ap (λ bytes. Some (little_number 4 bytes)) (same_bytes w (λ t. grants_execute t && holds_word t pc) s (range_with_len pc 4) is e h))

pub not_fetched : (w : Setup) (pc : ℕ) → find (λ t. grants_execute t && holds_word t pc) w.image.segments ≡ None → None ≡ fetch w pc
not_fetched w pc e =
    let none : is_executable w.image pc ≡ false = none_found (λ t. grants_execute t && holds_word t pc) w.image.segments e in
    rw none refl
