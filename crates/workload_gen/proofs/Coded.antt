-- The code of instructions: how it begins, what one more word makes of it, how long it is, and that there is only one.
use Rattle.std.proofs.Common.{◌≡◌, ℕ, ◌*◌, ◌<◌, ◌^◌, List, [], ◌∷◌, ◌++◌, length, map, Some, refl, ap, sym, ◌∙◌, arith}
use Rattle.std.specs.List.{All, flat_map}
use Rattle.std.specs.Int.{w32, to_le_bytes}
use Rattle.std.proofs.lemmas.List.{append-nil, map-append, length-map, length-append}
use Rattle.std.proofs.lemmas.List.Concat.{flat_map-append}
use Rattle.std.proofs.lemmas.List.Elements.{All-nil, All-push, All-head, All-tail}
use Rattle.rv_decode.specs.declared.instr.Instr.{Instr}
use Rattle.rv_decode.specs.Table.{row}
use Rattle.rv_encode.proofs.Rows.{same_word}
use Rattle.workload_gen.specs.Workload.{IsCodeOf, WorkloadIsOne, program_of}

abbrev IsLow : ℕ → Type 0
IsLow word = word < 2 ^ 32

pub coded_nothing : IsCodeOf [] []
coded_nothing = record {
  words = [];
  low = All-nil IsLow;
  decoded = refl;
  bytes = refl;
}

pub coded_more : (list : List Instr) (code : List ℕ) (instr : Instr) (word : ℕ) → IsCodeOf list code → word < 2 ^ 32 → row word ≡ Some instr → IsCodeOf (list ++ instr ∷ []) (code ++ to_le_bytes w32 word)
coded_more list code instr word before low is_row = record {
  words = before.words ++ word ∷ [];
  low = All-push IsLow before.words word before.low low;
  decoded = map-append row before.words (word ∷ []) ∙ rw (before.decoded, is_row) (sym (map-append Some list (instr ∷ [])));
  bytes = rw (flat_map-append (to_le_bytes w32) before.words (word ∷ []), append-nil (to_le_bytes w32 word)) (ap (λ bytes. bytes ++ to_le_bytes w32 word) before.bytes);
}

-- four bytes a word
length_bytes : (words : List ℕ) → length (flat_map (to_le_bytes w32) words) ≡ 4 * length words
length_bytes [] = refl
length_bytes (word ∷ words) = omega (arith, length_bytes words, length-append (to_le_bytes w32 word) (flat_map (to_le_bytes w32) words))

pub length_code : (list : List Instr) (code : List ℕ) → IsCodeOf list code → length code ≡ 4 * length list
length_code list code coded =
    let bytes = ap length coded.bytes in
    let words = ap length coded.decoded in
    omega (arith, bytes, length_bytes coded.words, words, length-map coded.words row, length-map list (λ (i : Instr). Some i))

-- words of the same instructions are the same words
same_words : (list : List Instr) (ws vs : List ℕ) → All IsLow ws → All IsLow vs → map row ws ≡ map Some list → map row vs ≡ map Some list → ws ≡ vs
same_words [] [] [] low below e f = refl
same_words [] [] (v ∷ vs) low below e f = cc
same_words [] (w ∷ ws) vs low below e f = cc
same_words (i ∷ list) [] vs low below e f = cc
same_words (i ∷ list) (w ∷ ws) [] low below e f = cc
same_words (i ∷ list) (w ∷ ws) (v ∷ vs) low below e f =
    let head : w ≡ v = same_word w v (All-head IsLow w ws low) (All-head IsLow v vs below) i (cc) (cc) in
    let tail : ws ≡ vs = same_words list ws vs (All-tail IsLow w ws low) (All-tail IsLow v vs below) (cc) (cc) in
    cc

-- instructions have one code
same_code : (list : List Instr) (code other : List ℕ) → IsCodeOf list code → IsCodeOf list other → code ≡ other
same_code list code other a b =
    a.bytes ∙ ap (flat_map (to_le_bytes w32)) (same_words list a.words b.words a.low b.low a.decoded b.decoded) ∙ sym b.bytes

pub one_workload : WorkloadIsOne
one_workload kind seed p q a b = a.laid_out ∙ ap program_of (same_code _ a.code b.code a.listed b.listed) ∙ sym b.laid_out
