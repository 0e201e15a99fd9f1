-- Who holds a line: the tiles one after the other; and a writer alone.
use Rattle.std.proofs.Common.{◌≡◌, ◌≢◌, ℕ, zero, suc, ◌+◌, ◌<◌, ◌≤◌, Bool, true, false, List, [], ◌∷◌, ◌++◌, length, Some, None, refl, sym, ap, ◌∙◌, inl, inr, arith, subst}
use Rattle.std.proofs.lemmas.Bool.{cases_Bool}
use Rattle.std.proofs.lemmas.List.Sums.{sum_by-cons, sum_by_push}
use Rattle.std.specs.Prelude.{Option, cond, find, count_by, slice_get}
use Rattle.std.specs.List.{range_with_len}
use Rattle.std.specs.Option.{option_map}
use Rattle.sim_base.specs.declared.lines.LineData.{LineData}
use Rattle.sim_base.specs.Numbering.{node_count}
use Rattle.sim_base.proofs.CheckedSettings.{in_range}
use Rattle.elf_image.specs.Layout.{Setup}
use Rattle.wire_msg.specs.declared.messages.Msg.{Msg}
use Rattle.tile_cache.specs.declared.ways.Hold.{Hold}
use Rattle.tile_cache.specs.declared.ways.Hold.TheVariants.{S, M}
use Rattle.tile_cache.specs.declared.ways.Way.{Way}
use Rattle.tile_cache.specs.Cache.{way_of}
use Rattle.tile_cache.specs.Copy.{absent, held_as, copy_in}
use Rattle.event_journal.specs.State.{State}
use Rattle.node_machine.specs.declared.nodes.Node.{Node}
use Rattle.node_machine.specs.declared.nodes.Node.TheVariants.{Tile, Control, Local}
use Rattle.node_machine.specs.Reading.{hold_of_node}
use Rattle.node_machine.specs.Core.{CoreData, Shows, IsCore, hold_at}
use Rattle.coherence_laws.specs.Part.{copy_at}
use Rattle.coherence_laws.specs.Coherence.{IsWritable}
use Rattle.coherence_laws.specs.Laws.{reached}
use Rattle.coherence_laws.specs.Holders.{is_to_write, is_to_read, hold_in, named_tiles, writer_below, readers_below, writer_with, readers_with, WriterIsAlone}
use Rattle.coherence_laws.proofs.Events.{always_one_writer}

-- one more tile

range_more : (a n j : ℕ) → a + n ≡ j → range_with_len a (suc n) ≡ range_with_len a n ++ j ∷ []
range_more a zero j e = ap (λ z. z ∷ []) (omega arith)
range_more a (suc n) j e = ap (λ l. a ∷ l) (range_more (a + 1) n j (omega arith))

writer_more : (p : ℕ → Bool) (xs : List ℕ) (x : ℕ) (hold : Option Hold) → p x ≡ is_to_write hold → find p (xs ++ x ∷ []) ≡ writer_with (find p xs) x hold
writer_more p [] x None e = cc
writer_more p [] x (Some S) e = cc
writer_more p [] x (Some M) e = cc
writer_more p (y ∷ ys) x hold e = elim (cases_Bool (p y)) [
  | inl t ↦ rw t refl
  | inr t ↦ rw t (writer_more p ys x hold e)
]

one_reader : (n : ℕ) (reads : Bool) (hold : Option Hold) → reads ≡ is_to_read hold → n + cond reads 1 0 ≡ readers_with n hold
one_reader n reads None e = ap (λ b. n + cond b 1 0) e ∙ omega arith
one_reader n reads (Some S) e = ap (λ b. n + cond b 1 0) e
one_reader n reads (Some M) e = ap (λ b. n + cond b 1 0) e ∙ omega arith

readers_more : (p : ℕ → Bool) (xs : List ℕ) (x : ℕ) (hold : Option Hold) → p x ≡ is_to_read hold → count_by p (xs ++ x ∷ []) ≡ readers_with (count_by p xs) hold
readers_more p xs x hold e = sum_by_push (λ y. cond (p y) 1 0) xs x ∙ one_reader (count_by p xs) (p x) hold e

one_longer : (n : ℕ) → range_with_len 0 (n + 1) ≡ range_with_len 0 n ++ n ∷ []
one_longer n = let next : n + 1 ≡ suc n = omega arith in ap (range_with_len 0) next ∙ range_more 0 n n (omega arith)

pub writer_next : (core : CoreData) (line n : ℕ) (hold : Option Hold) → hold ≡ hold_at (slice_get core.nodes n) line → writer_below core line (n + 1) ≡ writer_with (writer_below core line n) n hold
writer_next core line n hold e =
    ap (find (λ tile. is_to_write (hold_in core line tile))) (one_longer n)
    ∙ writer_more (λ tile. is_to_write (hold_in core line tile)) (range_with_len 0 n) n hold (ap is_to_write (sym e))

pub readers_next : (core : CoreData) (line n : ℕ) (hold : Option Hold) → hold ≡ hold_at (slice_get core.nodes n) line → readers_below core line (n + 1) ≡ readers_with (readers_below core line n) hold
readers_next core line n hold e =
    ap (count_by (λ tile. is_to_read (hold_in core line tile))) (one_longer n)
    ∙ readers_more (λ tile. is_to_read (hold_in core line tile)) (range_with_len 0 n) n hold (ap is_to_read (sym e))

at_most_more : (n m : ℕ) (hold : Option Hold) → n ≤ m → readers_with n hold ≤ m + 1
at_most_more n m None le = omega (arith, le)
at_most_more n m (Some S) le = omega (arith, le)
at_most_more n m (Some M) le = omega (arith, le)

pub readers_at_most : (n m readers : ℕ) (hold : Option Hold) → readers ≡ readers_with n hold → n ≤ m → readers ≤ m + 1
readers_at_most n m readers hold e le = subst (λ r. r ≤ m + 1) (sym e) (at_most_more n m hold le)

-- a writer that is found is one, and is among the tiles
found_below : (p : ℕ → Bool) (a n t : ℕ) → find p (range_with_len a n) ≡ Some t → (p t ≡ true) × (t < a + n)
found_below p a zero t e = cc
found_below p a (suc n) t e = elim (cases_Bool (p a)) [
  | inl passes ↦ let same : a ≡ t = found_first (p a) a t (find p (range_with_len (a + 1) n)) passes e in (subst (λ z. p z ≡ true) same passes, omega (arith, same))
  | inr other ↦ let later = found_below p (a + 1) n t (found_later (p a) a t (find p (range_with_len (a + 1) n)) other e) in (later.0, omega (arith, later.1))
]
  where
    found_first : (b : Bool) (a t : ℕ) (rest : Option ℕ) → b ≡ true → (cond b (Some a) rest) ≡ Some t → a ≡ t
    found_first true a t rest passes e = cc
    found_first false a t rest passes e = cc

    found_later : (b : Bool) (a t : ℕ) (rest : Option ℕ) → b ≡ false → (cond b (Some a) rest) ≡ Some t → rest ≡ Some t
    found_later true a t rest fails e = cc
    found_later false a t rest fails e = e

count_first : (p : ℕ → Bool) (x : ℕ) (xs : List ℕ) → p x ≡ false → count_by p (x ∷ xs) ≡ count_by p xs
count_first p x xs e = sum_by-cons (λ y. cond (p y) 1 0) x xs ∙ ap (λ b. cond b 1 0 + count_by p xs) e ∙ omega arith

none_counted : (p : ℕ → Bool) (a n : ℕ) → ((y : ℕ) → y < a + n → p y ≡ false) → count_by p (range_with_len a n) ≡ 0
none_counted p a zero none = refl
none_counted p a (suc n) none = count_first p a (range_with_len (a + 1) n) (none a (omega arith)) ∙ none_counted p (a + 1) n (λ y below. none y (omega (arith, below)))

-- a hold is a copy of its kind

to_write : (hold : Hold) (content : LineData) → is_to_write (Some hold) ≡ true → IsWritable (held_as hold content)
to_write S content e = cc
to_write M content e = tt

to_read : (hold : Hold) (content : LineData) → held_as hold content ≢ absent
to_read S content = λ e. cc
to_read M content = λ e. cc

way_writes : (way : Option Way) → is_to_write (option_map (λ way. way.hold) way) ≡ true → IsWritable (copy_in way)
way_writes None e = cc
way_writes (Some way) e = to_write way.hold way.content e

way_reads : (way : Option Way) → is_to_read (option_map (λ way. way.hold) way) ≡ true → copy_in way ≢ absent
way_reads None e = λ same. cc
way_reads (Some way) e = to_read way.hold way.content

way_held : (way : Option Way) → is_to_write (option_map (λ way. way.hold) way) ≡ true → copy_in way ≢ absent
way_held None e = λ same. cc
way_held (Some way) e = to_read way.hold way.content

node_writes : (node : Node) (line : ℕ) → is_to_write (hold_of_node node line) ≡ true → IsWritable (copy_at node line)
node_writes (Tile t) line e = way_writes (way_of t.cache line) e
node_writes (Control c) line e = cc
node_writes (Local l) line e = cc

node_reads : (node : Node) (line : ℕ) → is_to_read (hold_of_node node line) ≡ true → copy_at node line ≢ absent
node_reads (Tile t) line e = way_reads (way_of t.cache line) e
node_reads (Control c) line e = cc
node_reads (Local l) line e = cc

node_holds : (node : Node) (line : ℕ) → is_to_write (hold_of_node node line) ≡ true → copy_at node line ≢ absent
node_holds (Tile t) line e = way_held (way_of t.cache line) e
node_holds (Control c) line e = cc
node_holds (Local l) line e = cc

-- no hold is both
not_both : (hold : Option Hold) → is_to_write hold ≡ true → is_to_read hold ≡ true → ⊥
not_both None w r = cc
not_both (Some S) w r = cc
not_both (Some M) w r = cc

shown_hold : (w : Setup) (core : CoreData) (s : State Node Msg) (line tile : ℕ) → IsCore w core → Shows core s → tile < core.tiles → hold_in core line tile ≡ hold_of_node (s.node tile) line
shown_hold w core s line tile is shows low =
    let tiles : core.tiles ≡ w.config.tiles = is.tiles in
    let nodes : length core.nodes ≡ node_count w.config = is.nodes in
    let inside : tile < length core.nodes = omega arith in
    ap (λ node. hold_at node line) (shows.node tile inside)

pub writer_is_alone : (core : CoreData) (line : ℕ) → WriterIsAlone core line (writer_below core line core.tiles) (readers_below core line core.tiles)
writer_is_alone core line w events tile checked is run shows found =
    let s : State Node Msg = reached w events in
    let at : (t : ℕ) → t < core.tiles → hold_in core line t ≡ hold_of_node (s.node t) line = λ t low. shown_hold w core s line t is shows low in
    let first = found_below (λ t. is_to_write (hold_in core line t)) 0 core.tiles tile found in
    let low : tile < core.tiles = let found_low : tile < 0 + core.tiles = first.1 in omega (arith, found_low) in
    let writes : is_to_write (hold_of_node (s.node tile) line) ≡ true = ap is_to_write (sym (at tile low)) ∙ first.0 in
    let alone = always_one_writer w events line checked run tile in
    record {
      writer = λ other below other_writes. elim (alone other (node_writes (s.node tile) line writes)) [
        | inl same ↦ sym same
        | inr gone ↦ absurd (node_holds (s.node other) line (ap is_to_write (sym (at other below)) ∙ other_writes) gone)
      ];
      reader = none_counted (λ t. is_to_read (hold_in core line t)) 0 core.tiles
          (λ other within. let below : other < core.tiles = omega (arith, within) in elim (cases_Bool (is_to_read (hold_in core line other))) [
            | inl reads ↦
                let read_there : is_to_read (hold_of_node (s.node other) line) ≡ true = ap is_to_read (sym (at other below)) ∙ reads in
                elim (alone other (node_writes (s.node tile) line writes)) [
                  | inl same ↦ absurd (not_both (hold_of_node (s.node tile) line) writes (subst (λ z. is_to_read (hold_of_node (s.node z) line) ≡ true) (sym same) read_there))
                  | inr gone ↦ absurd (node_reads (s.node other) line read_there gone)
                ]
            | inr none ↦ none
          ]);
    }

-- after all tiles

pub all_found : (core : CoreData) (line n end : ℕ) (writer : Option ℕ) → end ≡ named_tiles core → n ≤ end → end ≤ n → writer ≡ writer_below core line n → writer ≡ writer_below core line (named_tiles core)
all_found core line n end writer all low high e = let same : n ≡ end = omega (arith, low, high) in e ∙ ap (writer_below core line) (same ∙ all)

pub all_counted : (core : CoreData) (line n end readers : ℕ) → end ≡ named_tiles core → n ≤ end → end ≤ n → readers ≡ readers_below core line n → readers ≡ readers_below core line (named_tiles core)
all_counted core line n end readers all low high e = let same : n ≡ end = omega (arith, low, high) in e ∙ ap (readers_below core line) (same ∙ all)

-- and the tiles that can be named are all tiles of a machine of checked settings
pub alone_so : (core : CoreData) (line : ℕ) (writer : Option ℕ) (readers : ℕ) → writer ≡ writer_below core line (named_tiles core) → readers ≡ readers_below core line (named_tiles core)
    → WriterIsAlone core line writer readers
alone_so core line writer readers e f w events tile checked is run shows found =
    let few : w.config.tiles ≤ 64 = (in_range w.config checked).tiles in
    let tiles : core.tiles ≡ w.config.tiles = is.tiles in
    let all : named_tiles core ≡ core.tiles = omega (arith, few, tiles) in
    let writers : writer ≡ writer_below core line core.tiles = e ∙ ap (writer_below core line) all in
    let alone = writer_is_alone core line w events tile checked is run shows (sym writers ∙ found) in
    record { writer = alone.writer; reader = f ∙ ap (readers_below core line) all ∙ alone.reader }
