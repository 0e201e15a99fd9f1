-- A tile as a home: what it is told is its slice's alone. And tiles at the start.
use Rattle.std.proofs.Common.{◌≡◌, ℕ, Bool, true, false, Some, None, refl, sym, ap, ◌∙◌}
use Rattle.std.proofs.lemmas.Bool.{cond-true}
use Rattle.std.proofs.lemmas.Option.{none-some, same_Some}
use Rattle.std.proofs.lemmas.List.Elements.{All-nil, All-weaker}
use Rattle.std.specs.Prelude.{All, if◌then◌else◌, ◌==◌}
use Rattle.elf_image.specs.Layout.{Setup}
use Rattle.wire_msg.specs.declared.messages.Msg.{Msg}
use Rattle.wire_msg.specs.declared.messages.Msg.TheVariants.{GetS, GetM, PutM, InvAck, FetchAck}
use Rattle.wire_msg.specs.declared.lines.Want.TheVariants.{Read, Write}
use Rattle.wire_msg.specs.declared.lines.Up.{Up}
use Rattle.wire_msg.specs.declared.lines.Up.TheVariants.{Asks, GivesUp, Acknowledges, HandsOver}
use Rattle.wire_msg.specs.Message.{may_send, up_of}
use Rattle.dir_slice.specs.Directory.{Slice}
use Rattle.tile_cache.specs.Cache.{IsCache}
use Rattle.tile_cache.proofs.ChangeLemmas.{empty_is_cache}
use Rattle.tile_cache.proofs.CopyLemmas.{empty_shows}
use Rattle.tile_core.specs.declared.cores.TileCore.{TileCore}
use Rattle.tile_core.specs.Core.{idle_core, begun}
use Rattle.tile_node.specs.Tile.{Tile, Act, quiet}
use Rattle.tile_node.specs.Deliver.{home_does, taken, tile_delivered}
use Rattle.tile_node.specs.OneLine.{wants_by}
use Rattle.tile_node.specs.OneLineLaws.{GoesRightly, DeliverStaysTile, ToldToReceivers, HomesHear, TilesStartEmpty}
use Rattle.tile_node.proofs.OneLineParts.{up_none}
use Rattle.tile_node.proofs.OneLineSpeaks.{GoesDown, homes_say}
use Rattle.tile_node.proofs.OneLinePlain.{deliver_plain}

-- a home hears a message that a node may send it
heard : (w : Setup) (t : Tile) (from line : ℕ) (msg : Msg) (one says : Up) (n : ℕ) → may_send w.config from t.number msg ≡ true → Some n ≡ Some line → Some one ≡ Some says
    → (if may_send w.config from t.number msg then home_does w t from n one else quiet t) ≡ home_does w t from line says
heard w t from line msg one says n may at is =
    cond-true (may_send w.config from t.number msg) _ _ may ∙ ap (λ m. home_does w t from m one) (same_Some n line at) ∙ ap (home_does w t from line) (same_Some one says is)

pub homes_hear : HomesHear
homes_hear w t from (GetS n) line says may at is = heard w t from line (GetS n) (Asks Read) says n may at is
homes_hear w t from (GetM n) line says may at is = heard w t from line (GetM n) (Asks Write) says n may at is
homes_hear w t from (PutM n content) line says may at is = heard w t from line (PutM n content) (GivesUp content) says n may at is
homes_hear w t from (InvAck n) line says may at is = heard w t from line (InvAck n) Acknowledges says n may at is
homes_hear w t from (FetchAck n content) line says may at is = heard w t from line (FetchAck n content) (HandsOver content) says n may at is
homes_hear w t from _ line says may at is = absurd (none-some says is)

-- a delivery leaves its cache a cache, and tells what it may: a home's cache stays as it is
record Kept (w : Setup) (t : Tile) (from : ℕ) (msg : Msg) (act : Act) : Type 0 where
  cache : IsCache t.cache → IsCache act.tile.cache
  number : act.tile.number ≡ t.number
  told : All (GoesRightly w from msg) act.mail

-- what says nothing to homes goes anywhere
silent_rightly : (w : Setup) (from : ℕ) (msg : Msg) (m : ℕ × Msg) → up_of m.1 ≡ None → GoesRightly w from msg m
silent_rightly w from msg m e line says up = absurd (none-some says (sym (up_none line m.1 e) ∙ up))

heard_kept : (w : Setup) (t : Tile) (from : ℕ) (msg : Msg) (line : ℕ) (says : Up) (b : Bool) → Kept w t from msg (if b then home_does w t from line says else quiet t)
heard_kept w t from msg line says true = record {
  cache = λ h. h;
  number = refl;
  told = All-weaker (GoesDown line) (GoesRightly w from msg) (λ m e. silent_rightly w from msg m e.0) (home_does w t from line says).mail (homes_say w t from line says);
}
heard_kept w t from msg line says false = record { cache = λ h. h; number = refl; told = All-nil (GoesRightly w from msg) }

plain_kept : (w : Setup) (t : Tile) (from : ℕ) (msg : Msg) → up_of msg ≡ None → Kept w t from msg (tile_delivered w t from msg)
plain_kept w t from msg e =
    let plain = deliver_plain w t from msg e in record { cache = plain.cache; number = ap (λ (p : ℕ × Slice). p.0) plain.place; told = plain.told }

kept : (w : Setup) (t : Tile) (from : ℕ) (msg : Msg) → Kept w t from msg (tile_delivered w t from msg)
kept w t from (GetS n) = heard_kept w t from (GetS n) n (Asks Read) (may_send w.config from t.number (GetS n))
kept w t from (GetM n) = heard_kept w t from (GetM n) n (Asks Write) (may_send w.config from t.number (GetM n))
kept w t from (PutM n content) = heard_kept w t from (PutM n content) n (GivesUp content) (may_send w.config from t.number (PutM n content))
kept w t from (InvAck n) = heard_kept w t from (InvAck n) n Acknowledges (may_send w.config from t.number (InvAck n))
kept w t from (FetchAck n content) = heard_kept w t from (FetchAck n content) n (HandsOver content) (may_send w.config from t.number (FetchAck n content))
kept w t from msg = plain_kept w t from msg refl

pub deliver_keeps_number : (w : Setup) (t : Tile) (from : ℕ) (msg : Msg) → (tile_delivered w t from msg).tile.number ≡ t.number
deliver_keeps_number w t from msg = (kept w t from msg).number

pub taken_keeps_number : (w : Setup) (t : Tile) (from : ℕ) (msg : Msg) → may_send w.config from t.number msg ≡ true → (taken w t from msg).tile.number ≡ t.number
taken_keeps_number w t from msg may =
    ap (λ act. act.tile.number) (sym (cond-true (may_send w.config from t.number msg) (taken w t from msg) (quiet t) may)) ∙ deliver_keeps_number w t from msg

pub deliver_stays : DeliverStaysTile
deliver_stays w t from msg h = record { cache = (kept w t from msg).cache h; number = deliver_keeps_number w t from msg }

pub deliver_told : ToldToReceivers
deliver_told w t from msg = (kept w t from msg).told

-- the start

start_wants : (w : Setup) (k : ℕ) (b : Bool) → (let core : TileCore = if b then begun w 0 0 w.image.entry 0 0 w.config.quantum else idle_core in wants_by core.write k core.status) ≡ None
start_wants w k true = refl
start_wants w k false = refl

pub start_empty : TilesStartEmpty
start_empty w tile some_set some_way = record {
  cache = empty_is_cache w.config.sets w.config.ways some_set some_way;
  copies = λ k. empty_shows w.config.sets w.config.ways k;
  wants = λ k. start_wants w k (tile == 0);
}
