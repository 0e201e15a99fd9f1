-- What a home sends goes down, and is about its line.
use Rattle.std.proofs.Common.{◌≡◌, ℕ, Bool, true, false, List, [], ◌∷◌, Some, None, refl, ap, ◌∙◌}
use Rattle.std.proofs.lemmas.List.Elements.{All-nil, All-cons, All-head, All-tail, All-append, All-weaker}
use Rattle.std.specs.Prelude.{Option, All, map, if◌then◌else◌}
use Rattle.std.specs.Option.{option_map}
use Rattle.sim_base.specs.declared.settings.Config.{Config}
use Rattle.elf_image.specs.Layout.{Setup}
use Rattle.wire_msg.specs.declared.messages.Msg.{Msg}
use Rattle.wire_msg.specs.declared.lines.Want.TheVariants.{Read, Write}
use Rattle.wire_msg.specs.declared.lines.Up.{Up}
use Rattle.wire_msg.specs.declared.lines.Up.TheVariants.{Asks, GivesUp, Acknowledges, HandsOver}
use Rattle.wire_msg.specs.Message.{line_of, up_of}
use Rattle.dir_slice.specs.Line.{Home, Request, Row, Sent, drop_copy, fetch, give, is_busy, request_row, answer_row, memory_after}
use Rattle.dir_slice.specs.Directory.{fixed_delay, Step, message, in_row, taken_up, settled, settle, after_row, reaction, home_at, mail_of}
use Rattle.tile_node.specs.Tile.{Tile}
use Rattle.tile_node.specs.Deliver.{home_does}
use Rattle.tile_node.specs.OneLineLaws.{HomesSpeakOfLines}
use Rattle.tile_node.proofs.OneLineParts.{up_none}
use Rattle.tile_node.specs.OneLine.{told_about}
use Rattle.std.specs.List.{cons_option}

-- what a home sends goes down, and is about the line
abbrev pub GoesDown : ℕ → ℕ × Msg → Type 0
GoesDown line m = (up_of m.1 ≡ None) × (line_of m.1 ≡ Some line)

message_down : (line : ℕ) (h : Home) (sent : Sent) → GoesDown line (message line h sent)
message_down line h (drop_copy to) = (refl, refl)
message_down line h (fetch Read to) = (refl, refl)
message_down line h (fetch Write to) = (refl, refl)
message_down line h (give Read to) = (refl, refl)
message_down line h (give Write to) = (refl, refl)

messages_down : (line : ℕ) (h : Home) (sent : List Sent) → All (GoesDown line) (map (message line h) sent)
messages_down line h [] = All-nil (GoesDown line)
messages_down line h (s ∷ sent) = All-cons (GoesDown line) (message line h s) (map (message line h) sent) (message_down line h s) (messages_down line h sent)

either_down : (line : ℕ) (b : Bool) (x y : Step) → All (GoesDown line) x.mail → All (GoesDown line) y.mail → All (GoesDown line) (if b then x else y).mail
either_down line true x y one other = one
either_down line false x y one other = other

in_row_down : (line : ℕ) (h : Home) (row : Row) → All (GoesDown line) (in_row line h row).mail
in_row_down line h row = messages_down line h row.sent

taken_down : (c : Config) (tile line : ℕ) (h : Home) (q : Request) → All (GoesDown line) (taken_up c tile line h q).mail
taken_down c tile line h q =
    let row : Row = request_row h.state q.want q.from in in_row_down line (record h { delay = fixed_delay c tile q.from row.state }) row

settled_down : (c : Config) (tile line : ℕ) (h : Home) (rest : List Request) → All (GoesDown line) (settled c tile line h rest).mail
settled_down c tile line h [] = All-nil (GoesDown line)
settled_down c tile line h (q ∷ rest) =
    either_down line (is_busy h.state) _ _ (All-nil (GoesDown line))
    (All-append (GoesDown line) (taken_up c tile line h q).mail (settled c tile line (taken_up c tile line h q).home rest).mail (taken_down c tile line h q)
    (settled_down c tile line (taken_up c tile line h q).home rest))

settle_down : (c : Config) (tile line : ℕ) (s : Step) → All (GoesDown line) s.mail → All (GoesDown line) (settle c tile line s).mail
settle_down c tile line s down = All-append (GoesDown line) s.mail (settled c tile line s.home s.home.waiting).mail down (settled_down c tile line s.home s.home.waiting)

answered_down : (c : Config) (tile line : ℕ) (h : Home) (says : Up) (row : Option Row) → All (GoesDown line) (mail_of (option_map (after_row c tile line h says) row))
answered_down c tile line h says None = All-nil (GoesDown line)
answered_down c tile line h says (Some row) =
    settle_down c tile line (in_row line (record h { memory = memory_after says h.memory }) row) (messages_down line (record h { memory = memory_after says h.memory }) row.sent)

reaction_down : (c : Config) (tile line : ℕ) (h : Home) (from : ℕ) (says : Up) → All (GoesDown line) (mail_of (reaction c tile line h from says))
reaction_down c tile line h from (Asks want) = either_down line (is_busy h.state) _ _ (All-nil (GoesDown line)) (taken_down c tile line h (record { from = from; want = want }))
reaction_down c tile line h from Acknowledges = answered_down c tile line h Acknowledges (answer_row h.state from Acknowledges)
reaction_down c tile line h from (HandsOver content) = answered_down c tile line h (HandsOver content) (answer_row h.state from (HandsOver content))
reaction_down c tile line h from (GivesUp content) = answered_down c tile line h (GivesUp content) (answer_row h.state from (GivesUp content))

pub homes_say : HomesSpeakOfLines
homes_say w t from line says = reaction_down w.config t.number line (home_at t.slice.homes line) from says

-- so of no line does it say anything to a home
all_silent : (k : ℕ) (mail : List (ℕ × Msg)) → All (λ m. up_of m.1 ≡ None) mail → told_about k mail ≡ []
all_silent k [] all = refl
all_silent k (m ∷ mail) all =
    ap (λ o. cons_option o (told_about k mail)) (up_none k m.1 (All-head (λ (m : ℕ × Msg). up_of m.1 ≡ None) m mail all))
    ∙ all_silent k mail (All-tail (λ (m : ℕ × Msg). up_of m.1 ≡ None) m mail all)

pub homes_silent : (w : Setup) (t : Tile) (from line : ℕ) (says : Up) (k : ℕ) → told_about k (home_does w t from line says).mail ≡ []
homes_silent w t from line says k =
    all_silent k (home_does w t from line says).mail
    (All-weaker (GoesDown line) (λ (m : ℕ × Msg). up_of m.1 ≡ None) (λ m e. e.0) (home_does w t from line says).mail (homes_say w t from line says))
