-- A slice of the directory: the lines whose home is one tile. Every message is a row of the table; a request waits for
-- its row while a transaction is under way. After an answer the waiting ones are taken up in order, until a transaction is
-- under way again or none is left.
use Rattle.std.specs.Prelude.{ℕ, ◌+◌, ◌-◌, ◌/◌, ◌==◌, ◌≡◌, Bool, true, false, List, [], ◌∷◌, ◌++◌, length, map, filter, fold, max, replicate, if◌then◌else◌, Option, Some, None, unwrap_or, Result, Ok, Err}
use Rattle.std.specs.Option.{option_map}
use Rattle.std.specs.List.{flat_map, range_with_len}
use Rattle.std.specs.Ordering.{nat_cmp}
use Rattle.std.specs.FinMap.{FinMap, get, insert, from_entries}
use Rattle.sim_base.specs.declared.lines.LineData.{LineData}
use Rattle.sim_base.specs.declared.memory.NoMemory.{NoMemory}
use Rattle.sim_base.specs.declared.settings.Config.{Config}
use Rattle.sim_base.specs.Numbering.{home_of}
use Rattle.elf_image.specs.declared.program.Segment.{Segment}
use Rattle.elf_image.specs.Layout.{Setup, initial_line}
use Rattle.mesh_model.specs.Mesh.{hops_between}
use Rattle.mesh_model.specs.Cost.{delay_of}
use Rattle.wire_msg.specs.declared.messages.Msg.{Msg}
use Rattle.wire_msg.specs.declared.messages.Msg.TheVariants.{DataS, DataM, Inv, Fetch, FetchInv}
use Rattle.wire_msg.specs.declared.lines.Want.{Want}
use Rattle.wire_msg.specs.declared.lines.Want.TheVariants.{Read, Write}
use Rattle.wire_msg.specs.declared.lines.Up.{Up}
use Rattle.wire_msg.specs.declared.lines.Up.TheVariants.{Asks}
use Rattle.dir_slice.specs.Line.{Home, Request, Row, Sent, drop_copy, fetch, give, fresh, State, is_busy, request_row, answer_row, memory_after, awaited}

-- messages, each with its receiver
abbrev pub Mail : Type 0
Mail = List (ℕ × Msg)

-- the message by which a home fetches a line, and that with the line's data and the delay
abbrev pub fetch_message : ℕ → Want → Msg
fetch_message line Read = Fetch line
fetch_message line Write = FetchInv line

abbrev pub data_message : ℕ → Home → Want → Msg
data_message line h Read = DataS line h.memory h.delay
data_message line h Write = DataM line h.memory h.delay

-- the message of what is sent about a line, from its home
abbrev pub message : ℕ → Home → Sent → ℕ × Msg
message line h (drop_copy to) = (to, Inv line)
message line h (fetch want to) = (to, fetch_message line want)
message line h (give want to) = (to, data_message line h want)

-- a home after a row or more, with what was sent
pub record Step : Type 0 where
  pub home : Home
  pub mail : Mail

-- the greatest number of hops from the home to one of these nodes, 0 where there is none
abbrev pub farthest : Config → ℕ → List ℕ → ℕ
farthest c tile nodes = fold (λ most x. max most (hops_between c tile x)) 0 nodes

-- the line at this home with the state of a row
abbrev pub in_row : ℕ → Home → Row → Step
in_row line h row = record { home = record h { state = row.state }; mail = map (message line h) row.sent }

-- the delay of a new transaction, fixed by its requester and by the nodes that have to give up the line
abbrev pub fixed_delay : Config → ℕ → ℕ → State → ℕ
fixed_delay c tile from state = delay_of c from tile (farthest c tile (awaited state))

abbrev pub in_row_with_delay : Config → ℕ → ℕ → Home → Request → Row → Step
in_row_with_delay c tile line h q row = in_row line (record h { delay = fixed_delay c tile q.from row.state }) row

-- a request's turn has come
abbrev pub taken_up : Config → ℕ → ℕ → Home → Request → Step
taken_up c tile line h q = in_row_with_delay c tile line h q (request_row h.state q.want q.from)

-- a step after what was sent before it
abbrev pub before_mail : Mail → Step → Step
before_mail mail s = record s { mail = mail ++ s.mail }

-- the waiting requests are taken up in order until a transaction is under way or none is left
abbrev pub settled : Config → ℕ → ℕ → Home → List Request → Step
settled c tile line h [] = record { home = record h { waiting = [] }; mail = [] }
settled c tile line h (q ∷ rest) =
    if is_busy h.state then record { home = record h { waiting = q ∷ rest }; mail = [] }
    else before_mail (taken_up c tile line h q).mail (settled c tile line (taken_up c tile line h q).home rest)

abbrev pub settle : Config → ℕ → ℕ → Step → Step
settle c tile line s = before_mail s.mail (settled c tile line s.home s.home.waiting)

-- the messages; none where the table has no row, and then nothing changes and nothing is sent

-- a request waits while a transaction is under way, and else is taken up at once
abbrev pub requested : Config → ℕ → ℕ → Home → Request → Step
requested c tile line h q =
    if is_busy h.state then record { home = record h { waiting = h.waiting ++ q ∷ [] }; mail = [] }
    else taken_up c tile line h q

-- the row for an answer: its data is the home's memory from then on; then the waiting requests are taken up
abbrev pub after_row : Config → ℕ → ℕ → Home → Up → Row → Step
after_row c tile line h says row = settle c tile line (in_row line (record h { memory = memory_after says h.memory }) row)

abbrev pub answered : Config → ℕ → ℕ → Home → ℕ → Up → Option Step
answered c tile line h from says = option_map (after_row c tile line h says) (answer_row h.state from says)

-- what a home makes of what a node tells it of the line, if the table has a row for it
abbrev pub reaction : Config → ℕ → ℕ → Home → ℕ → Up → Option Step
reaction c tile line h from (Asks want) = Some (requested c tile line h (record { from = from; want = want }))
reaction c tile line h from says = answered c tile line h from says

-- a line at its home after a step, if one was made
abbrev pub home_after : Home → Option Step → Home
home_after h None = h
home_after h (Some step) = step.home

abbrev pub mail_of : Option Step → Mail
mail_of None = []
mail_of (Some step) = step.mail

-- the lines whose home is one tile, as far as it knows them

-- a line of zeros
unfoldable pub zero_line : LineData
zero_line = record { bytes = replicate 64 0 }

-- a line at its home: one that isn't known yet is fresh, and zero
abbrev pub home_at : FinMap nat_cmp Home → ℕ → Home
home_at homes line = unwrap_or (get homes line) (fresh zero_line)

-- the lines with another home of one
abbrev pub with_home : FinMap nat_cmp Home → ℕ → Home → FinMap nat_cmp Home
with_home homes line h = insert homes line h

-- the lines after a step of one, if one was made
abbrev pub after_step : FinMap nat_cmp Home → ℕ → Option Step → FinMap nat_cmp Home
after_step homes line None = homes
after_step homes line (Some step) = with_home homes line step.home

-- the lines that have a byte of a segment's file
abbrev pub file_lines : Segment → List ℕ
file_lines s =
    if length s.bytes == 0 then [] else range_with_len (s.vaddr / 64) ((s.vaddr + length s.bytes - 1) / 64 - s.vaddr / 64 + 1)

-- those whose home is a tile
abbrev pub homed_lines : Setup → ℕ → List ℕ
homed_lines w tile = filter (λ line. home_of w.config line == tile) (flat_map file_lines w.image.segments)

-- a tile's lines before the program runs: those of the image's files, each with what the image gives it
unfoldable pub start_homes : Setup → ℕ → FinMap nat_cmp Home
start_homes w tile = from_entries (map (λ line. (line, fresh (initial_line w line))) (homed_lines w tile))

-- a slice: its tile, how many tiles the machine has, the lines that it knows, and whether it is spent, as it is once
-- memory ran out in a call
pub record Slice : Type 0 where
  pub tile : ℕ
  pub tiles : ℕ
  pub homes : FinMap nat_cmp Home
  pub spent : Bool

-- a slice before the program runs
abbrev pub start_slice : Setup → ℕ → Slice
start_slice w tile = record { tile = tile; tiles = w.config.tiles; homes = start_homes w tile; spent = false }

-- what a call answers: Ok with the step made and its messages sent, where the slice isn't spent; after want of
-- memory the slice is spent but still of its tile, and nothing is said of what was sent
abbrev pub Answers : Result (Unit {0}) NoMemory → Slice → Slice → Mail → Mail → ℕ → Option Step → Type 0
Answers (Ok done) old new out_old out_new line step =
    (old.spent ≡ false) × (new ≡ record old { homes = after_step old.homes line step }) × (out_new ≡ out_old ++ mail_of step)
Answers (Err e) old new out_old out_new line step = (new.spent ≡ true) × (new.tile ≡ old.tile) × (new.tiles ≡ old.tiles)
