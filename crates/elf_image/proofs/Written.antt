-- What is read from the file of a program is that program.
use Rattle.std.proofs.Common.{◌≡◌, ◌+◌, ◌*◌, ◌%◌, ◌^◌, ◌≤◌, ◌<◌, ◌&&◌, ◌==◌, ◌++◌, ℕ, true, false, List, [], ◌∷◌, All, length, map, filter, drop, sum_by, replicate, arith, refl, subst, ap, ◌∙◌, sym, Option, None, Ok, inl, inr}
use Rattle.std.specs.List.{list_any, range_with_len, flat_map}
use Rattle.std.proofs.lemmas.Bool.{cases_lt, le-ltb, both_ways, false≢true}
use Rattle.std.proofs.lemmas.Bool.Decides.{nat_tests}
use Rattle.std.proofs.lemmas.List.{length-append, append_assoc, drop-drop}
use Rattle.std.proofs.lemmas.List.Elements.{All-tail}
use Rattle.std.proofs.lemmas.List.Sums.{sum_by-cons}
use Rattle.std.proofs.lemmas.List.Concat.{length-flat_map}
use Rattle.std.proofs.Math.Seq.{take-append_seam, drop-append_seam}
use Rattle.byteorder.specs.Endian.{little_number, little_bytes}
use Rattle.byteorder.specs.Numbers.{little_number-reads_back}
use Rattle.elf_image.specs.declared.program.Segment.{Segment}
use Rattle.elf_image.specs.declared.headers.ProgramHeader.{ProgramHeader}
use Rattle.elf_image.specs.declared.refusal.ImageFault.{ImageFault}
use Rattle.elf_image.specs.Header.{headers, header_from, loads, class, data_encoding, ident_version, e_type, e_machine, e_entry, e_phoff, e_phentsize, e_phnum}
use Rattle.elf_image.specs.Image.{Program, program, image_of, refused_or, first_fault, first_of, header_refusals, table_refusals, program_refusals, segment_of, segment_end, holds, grants_execute, some_executes, IsSegment, IsProgram, has_wrong_size, has_wrong_table, has_wrong_headers, has_wrong_magic, has_wrong_class, has_wrong_kind, has_wrong_machine, has_kind}
use Rattle.elf_image.proofs.Ranges.{none_has}
use Rattle.elf_image.proofs.Programs.{program_passes}
use Rattle.elf_image.specs.File.{ident_bytes, header_bytes, segment_header, table_bytes, file_size, file_of}

-- the header that is written for a segment, and those for segments one after the other
abbrev header : ℕ → Segment → ProgramHeader
header at s = record { kind = 1; flags = s.flags; offset = at; vaddr = s.vaddr; filesz = length s.bytes; memsz = s.memsz }

abbrev made : ℕ → List Segment → List ProgramHeader
made at [] = []
made at (s ∷ rest) = header at s ∷ made (at + length s.bytes) rest

same_header : (k l f g o p v w z y m n : ℕ) → k ≡ l → f ≡ g → o ≡ p → v ≡ w → z ≡ y → m ≡ n →
    let a : ProgramHeader = record { kind = k; flags = f; offset = o; vaddr = v; filesz = z; memsz = m } in
    let b : ProgramHeader = record { kind = l; flags = g; offset = p; vaddr = w; filesz = y; memsz = n } in
    a ≡ b
same_header k l f g o p v w z y m n a b c d e h = rw (a, b, c, d, e, h)

back4 : (x : ℕ) → x < 2 ^ 32 → little_number 4 (little_bytes 4 x) ≡ x
back4 x low = little_number-reads_back 4 x [] low

back8 : (x : ℕ) → x < 2 ^ 64 → little_number 8 (little_bytes 8 x) ≡ x
back8 x low = little_number-reads_back 8 x [] low

read_header : (at : ℕ) (s : Segment) (rest : List ℕ) → IsSegment s → at < 2 ^ 64 → header_from (segment_header at s ++ rest) 0 ≡ header at s
unfolding header_from segment_header
read_header at s rest is low =
    let end : segment_end s ≤ 2 ^ 32 = is.low_end in
    let fit : length s.bytes ≤ s.memsz = is.bytes_fit in
    let flags : s.flags < 8 = is.three_flags in
    same_header _ 1 _ s.flags _ at _ s.vaddr _ (length s.bytes) _ s.memsz
    refl (back4 s.flags (omega arith)) (back8 at low) (back8 s.vaddr (omega arith)) (back8 (length s.bytes) (omega arith)) (back8 s.memsz (omega arith))

header_moves : (bytes : List ℕ) (at : ℕ) → header_from bytes at ≡ header_from (drop at bytes) 0
unfolding header_from
header_moves bytes at =
    same_header _ _ _ _ _ _ _ _ _ _ _ _
    refl (ap (little_number 4) (sym (drop-drop 4 at bytes))) (ap (little_number 8) (sym (drop-drop 8 at bytes)))
    (ap (little_number 8) (sym (drop-drop 16 at bytes))) (ap (little_number 8) (sym (drop-drop 32 at bytes))) (ap (little_number 8) (sym (drop-drop 40 at bytes)))

past_header : (at : ℕ) (s : Segment) (rest more : List ℕ) → drop 56 ((segment_header at s ++ rest) ++ more) ≡ rest ++ more
unfolding segment_header
past_header at s rest more = refl

at_header : (at : ℕ) (s : Segment) (rest more : List ℕ) → IsSegment s → at < 2 ^ 64 → header_from ((segment_header at s ++ rest) ++ more) 0 ≡ header at s
unfolding segment_header
at_header at s rest more is low = read_header at s (rest ++ more) is low

headers_read : (bytes : List ℕ) (a i at : ℕ) (segments : List Segment) (rest : List ℕ) → All IsSegment segments →
    drop (a + 56 * i) bytes ≡ table_bytes at segments ++ rest → at + sum_by (λ s. length s.bytes) segments < 2 ^ 64 →
    map (λ k. header_from bytes (a + 56 * k)) (range_with_len i (length segments)) ≡ made at segments
headers_read bytes a i at [] rest all stands low = refl
headers_read bytes a i at (s ∷ segments) rest all stands low =
    let size = sum_by-cons (λ (t : Segment). length t.bytes) s segments in
    let first : header_from bytes (a + 56 * i) ≡ header at s =
    header_moves bytes (a + 56 * i) ∙ rw stands (at_header at s (table_bytes (at + length s.bytes) segments) rest (all 0 s (omega arith)) (omega arith)) in
    let place : a + 56 * (i + 1) ≡ (a + 56 * i) + 56 = omega arith in
    let next : drop (a + 56 * (i + 1)) bytes ≡ table_bytes (at + length s.bytes) segments ++ rest =
    rw place (sym (drop-drop 56 (a + 56 * i) bytes) ∙ rw stands (past_header at s (table_bytes (at + length s.bytes) segments) rest)) in
    let later = headers_read bytes a (i + 1) (at + length s.bytes) segments rest (All-tail IsSegment s segments all) next (omega arith) in
    ap (λ (h : ProgramHeader). h ∷ map (λ k. header_from bytes (a + 56 * k)) (range_with_len (i + 1) (length segments))) first
    ∙ ap (λ (hs : List ProgramHeader). header at s ∷ hs) later

same_segment : (v m f g : ℕ) (b c : List ℕ) → f ≡ g → b ≡ c →
    let s : Segment = record { vaddr = v; memsz = m; flags = f; bytes = b } in
    let t : Segment = record { vaddr = v; memsz = m; flags = g; bytes = c } in
    s ≡ t
same_segment v m f g b c e h = rw (e, h)

segments_read : (bytes : List ℕ) (at : ℕ) (segments : List Segment) → All IsSegment segments → drop at bytes ≡ flat_map (λ s. s.bytes) segments →
    map (segment_of bytes) (made at segments) ≡ segments
segments_read bytes at [] all stands = refl
segments_read bytes at (s ∷ segments) all stands =
    let is : IsSegment s = all 0 s (omega arith) in
    let flags : s.flags < 8 = is.three_flags in
    let first : segment_of bytes (header at s) ≡ s =
    same_segment s.vaddr s.memsz (s.flags % 8) s.flags _ s.bytes (omega arith) (rw stands (take-append_seam s.bytes (flat_map (λ t. t.bytes) segments))) in
    let next : drop (at + length s.bytes) bytes ≡ flat_map (λ t. t.bytes) segments =
    sym (drop-drop (length s.bytes) at bytes) ∙ rw stands (drop-append_seam s.bytes (flat_map (λ t. t.bytes) segments)) in
    ap (λ (t : Segment). t ∷ map (segment_of bytes) (made (at + length s.bytes) segments)) first
    ∙ ap (λ (ts : List Segment). s ∷ ts) (segments_read bytes (at + length s.bytes) segments (All-tail IsSegment s segments all) next)

made_loads : (at : ℕ) (segments : List Segment) → filter (λ h. h.kind == 1) (made at segments) ≡ made at segments
made_loads at [] = refl
made_loads at (s ∷ segments) = ap (λ (hs : List ProgramHeader). header at s ∷ hs) (made_loads (at + length s.bytes) segments)

made_kind : (kind at : ℕ) (segments : List Segment) → (1 == kind) ≡ false → list_any (λ h. h.kind == kind) (made at segments) ≡ false
made_kind kind at [] other = refl
made_kind kind at (s ∷ segments) other = rw other (made_kind kind (at + length s.bytes) segments other)

made_sizes : (bytes : List ℕ) (at : ℕ) (segments : List Segment) → All IsSegment segments → at + sum_by (λ s. length s.bytes) segments ≤ length bytes →
    list_any (has_wrong_size bytes) (made at segments) ≡ false
made_sizes bytes at [] all low = refl
made_sizes bytes at (s ∷ segments) all low =
    let size = sum_by-cons (λ (t : Segment). length t.bytes) s segments in
    let is : IsSegment s = all 0 s (omega arith) in
    let fit : length s.bytes ≤ s.memsz = is.bytes_fit in
    rw (le-ltb s.memsz (length s.bytes) fit, le-ltb (length bytes) (at + length s.bytes) (omega arith))
    (made_sizes bytes (at + length s.bytes) segments (All-tail IsSegment s segments all) (omega arith))

length_table : (at : ℕ) (segments : List Segment) → length (table_bytes at segments) ≡ 56 * length segments
unfolding segment_header
length_table at [] = refl
length_table at (s ∷ segments) = let rest = length_table (at + length s.bytes) segments in omega arith

-- the fields of the file header
record Fields (bytes : List ℕ) (entry count : ℕ) : Type 0 where
  class_is : class bytes ≡ 2
  data_is : data_encoding bytes ≡ 1
  version_is : ident_version bytes ≡ 1
  type_is : e_type bytes ≡ 2
  machine_is : e_machine bytes ≡ 243
  entry_is : e_entry bytes ≡ entry
  offset_is : e_phoff bytes ≡ 64
  size_is : e_phentsize bytes ≡ 56
  count_is : e_phnum bytes ≡ count

fields_of : (entry count : ℕ) (rest : List ℕ) → entry < 2 ^ 64 → count < 2 ^ 16 → Fields (header_bytes entry count ++ rest) entry count
unfolding header_bytes ident_bytes class data_encoding ident_version e_type e_machine e_entry e_phoff e_phentsize e_phnum
fields_of entry count rest low few = record {
  class_is = refl;
  data_is = refl;
  version_is = refl;
  type_is = refl;
  machine_is = refl;
  entry_is = back8 entry low;
  offset_is = refl;
  size_is = refl;
  count_is = little_number-reads_back 2 count [] few;
}

past_file_header : (entry count : ℕ) (rest : List ℕ) → drop 64 (header_bytes entry count ++ rest) ≡ rest
unfolding header_bytes ident_bytes
past_file_header entry count rest = refl

length_header : (entry count : ℕ) (rest : List ℕ) → length (header_bytes entry count ++ rest) ≡ 64 + length rest
unfolding header_bytes ident_bytes
length_header entry count rest = omega arith

magic_right : (entry count : ℕ) (rest : List ℕ) → has_wrong_magic (header_bytes entry count ++ rest) ≡ false
unfolding has_wrong_magic header_bytes ident_bytes
magic_right entry count rest = refl

class_right : (bytes : List ℕ) (entry count : ℕ) → Fields bytes entry count → has_wrong_class bytes ≡ false
unfolding has_wrong_class
class_right bytes entry count f = rw (f.class_is, f.data_is, f.version_is)

kind_right : (bytes : List ℕ) (entry count : ℕ) → Fields bytes entry count → has_wrong_kind bytes ≡ false
unfolding has_wrong_kind
kind_right bytes entry count f = rw f.type_is

machine_right : (bytes : List ℕ) (entry count : ℕ) → Fields bytes entry count → has_wrong_machine bytes ≡ false
unfolding has_wrong_machine
machine_right bytes entry count f = rw f.machine_is

table_right : (bytes : List ℕ) (entry count : ℕ) → Fields bytes entry count → 0 < count → count ≤ 64 → 64 + 56 * count ≤ length bytes → has_wrong_table bytes ≡ false
table_right bytes entry count f some few room =
    let none : (count == 0) ≡ false = grind (arith, nat_tests) in
    rw (f.size_is, f.count_is, f.offset_is, none, le-ltb 64 count few, le-ltb (length bytes) (64 + 56 * count) room)

headers_right : (bytes : List ℕ) (at : ℕ) (segments : List Segment) → has_wrong_table bytes ≡ false → loads bytes ≡ made at segments → All IsSegment segments →
    at + sum_by (λ s. length s.bytes) segments ≤ length bytes → has_wrong_headers bytes ≡ false
unfolding has_wrong_headers
headers_right bytes at segments table same all room = rw (table, same, made_sizes bytes at segments all room)

no_kind : (bytes : List ℕ) (kind at : ℕ) (segments : List Segment) → headers bytes ≡ made at segments → (1 == kind) ≡ false → has_kind kind bytes ≡ false
unfolding has_kind
no_kind bytes kind at segments same other = rw same (made_kind kind at segments other)

some_segment : (segments : List Segment) (address : ℕ) → list_any (λ s. grants_execute s && holds s address) segments ≡ true → 0 < length segments
some_segment [] address e = absurd (false≢true e)
some_segment (s ∷ segments) address e = omega arith

low_entry : (p : Program) → IsProgram p → p.entry < 2 ^ 32
low_entry p is = elim (cases_lt p.entry (2 ^ 32)) [
  | inl low ↦ low
  | inr high ↦ absurd (both_ways (some_executes p p.entry) (none_has grants_execute p.segments p.entry is.each high) is.entered)
]

accepted : (bytes : List ℕ) (p : Program) (at : ℕ) → IsProgram p → Fields bytes p.entry (length p.segments) → has_wrong_magic bytes ≡ false →
    length bytes ≤ 16777216 → 64 + 56 * length p.segments ≤ length bytes → at + sum_by (λ s. length s.bytes) p.segments ≤ length bytes →
    headers bytes ≡ made at p.segments → program bytes ≡ p → first_fault bytes ≡ None
unfolding first_of header_refusals table_refusals
accepted bytes p at is f magic short room whole same held =
    let loaded : loads bytes ≡ made at p.segments = ap (filter (λ h. h.kind == 1)) same ∙ made_loads at p.segments in
    let table = table_right bytes p.entry (length p.segments) f (some_segment p.segments p.entry is.entered) is.few room in
    let sized = headers_right bytes at p.segments table loaded is.each whole in
    let held_none : first_of program_refusals (program bytes) ≡ None = ap (λ (q : Program). first_of program_refusals q) held ∙ program_passes p is in
    rw (
      le-ltb 16777216 (length bytes) short,
      le-ltb (length bytes) 64 (omega arith),
      magic,
      class_right bytes _ _ f,
      kind_right bytes _ _ f,
      machine_right bytes _ _ f,
      sized,
      no_kind bytes 2 at p.segments same refl,
      no_kind bytes 3 at p.segments same refl,
      no_kind bytes 7 at p.segments same refl,
      held_none,
    )

headers_at : (bytes : List ℕ) (a n : ℕ) → e_phoff bytes ≡ a → e_phnum bytes ≡ n → headers bytes ≡ map (λ k. header_from bytes (a + 56 * k)) (range_with_len 0 n)
headers_at bytes a n place count =
    ap (λ (b : ℕ). map (λ k. header_from bytes (b + 56 * k)) (range_with_len 0 (e_phnum bytes))) place
    ∙ ap (λ (m : ℕ). map (λ k. header_from bytes (a + 56 * k)) (range_with_len 0 m)) count

-- the file of a program holds that program
pub reads_back : (p : Program) → IsProgram p → file_size p.segments ≤ 16777216 → image_of (file_of p) ≡ Ok p
unfolding file_of
reads_back p is small =
    let n : ℕ = length p.segments in
    let base : ℕ = 64 + 56 * n in
    let content : List ℕ = flat_map (λ (s : Segment). s.bytes) p.segments in
    let rest : List ℕ = table_bytes base p.segments ++ content in
    let bytes : List ℕ = header_bytes p.entry n ++ rest in
    let few : n ≤ 64 = is.few in
    let low : p.entry < 2 ^ 32 = low_entry p is in
    let table_long : length (table_bytes base p.segments) ≡ 56 * n = length_table base p.segments in
    let data_long : length content ≡ sum_by (λ (s : Segment). length s.bytes) p.segments = length-flat_map (λ (s : Segment). s.bytes) p.segments in
    let rest_long : length rest ≡ length (table_bytes base p.segments) + length content = length-append (table_bytes base p.segments) content in
    let long : length bytes ≡ 64 + length rest = length_header p.entry n rest in
    let fields : Fields bytes p.entry n = fields_of p.entry n rest (omega arith) (omega arith) in
    let stands : drop (64 + 56 * 0) bytes ≡ table_bytes base p.segments ++ content = past_file_header p.entry n rest in
    let read : map (λ k. header_from bytes (64 + 56 * k)) (range_with_len 0 n) ≡ made base p.segments =
    headers_read bytes 64 0 base p.segments content is.each stands (omega arith) in
    let same : headers bytes ≡ made base p.segments = headers_at bytes 64 n fields.offset_is fields.count_is ∙ read in
    let past_table : drop base bytes ≡ content =
    sym (drop-drop (56 * n) 64 bytes) ∙ (ap (drop (56 * n)) (past_file_header p.entry n rest) ∙ subst (λ (m : ℕ). drop m (table_bytes base p.segments ++ content) ≡ content) table_long (drop-append_seam (table_bytes base p.segments) content)) in
    let segments : map (segment_of bytes) (made base p.segments) ≡ p.segments = segments_read bytes base p.segments is.each past_table in
    let loaded : loads bytes ≡ made base p.segments = ap (filter (λ h. h.kind == 1)) same ∙ made_loads base p.segments in
    let held : program bytes ≡ p = rw (fields.entry_is, loaded, segments) in
    let none : first_fault bytes ≡ None = accepted bytes p base is fields (magic_right p.entry n rest) (omega arith) (omega arith) (omega arith) same held in
    ap (λ (o : Option ImageFault). refused_or o (program bytes)) none ∙ ap (λ (q : Program). refused_or None q) held

joined : (o a b c d e f : List ℕ) → (((((o ++ a) ++ b) ++ c) ++ d) ++ e) ++ f ≡ o ++ (a ++ (b ++ (c ++ (d ++ (e ++ f)))))
joined o a b c d e f = simp append_assoc

-- the pieces in which the file header is written
pub header_made : (o : List ℕ) (entry count : ℕ) →
    (((((o ++ ident_bytes) ++ (little_bytes 2 2 ++ little_bytes 2 243 ++ little_bytes 4 1)) ++ little_bytes 8 entry) ++ little_bytes 8 64) ++ replicate 12 0)
    ++ (little_bytes 2 64 ++ little_bytes 2 56 ++ little_bytes 2 count ++ replicate 6 0)
    ≡ o ++ header_bytes entry count
unfolding header_bytes ident_bytes
header_made o entry count = joined o _ _ _ _ _ _

joined_eight : (o a b c d e f g h : List ℕ) → (((((((o ++ a) ++ b) ++ c) ++ d) ++ e) ++ f) ++ g) ++ h ≡ o ++ (a ++ (b ++ (c ++ (d ++ (e ++ (f ++ (g ++ h)))))))
joined_eight o a b c d e f g h = simp append_assoc

-- the pieces in which a program header is written
pub segment_made : (o : List ℕ) (at : ℕ) (s : Segment) →
    (((((((o ++ little_bytes 4 1) ++ little_bytes 4 s.flags) ++ little_bytes 8 at) ++ little_bytes 8 s.vaddr) ++ little_bytes 8 s.vaddr) ++ little_bytes 8 (length s.bytes)) ++ little_bytes 8 s.memsz) ++ little_bytes 8 1
    ≡ o ++ segment_header at s
unfolding segment_header
segment_made o at s = joined_eight o _ _ _ _ _ _ _ _

-- the parts in which a file is written
pub file_made : (p : Program) (o a b c : List ℕ) (entry : ℕ) (segments : List Segment) → o ≡ [] → a ≡ o ++ header_bytes entry (length segments) →
    b ≡ a ++ table_bytes (64 + 56 * length segments) segments → c ≡ b ++ flat_map (λ s. s.bytes) segments → entry ≡ p.entry → segments ≡ p.segments → c ≡ file_of p
unfolding file_of
file_made p o a b c entry segments none first second third at same = rw (third, second, first, none, at, same, append_assoc)
