-- What a tile sends of traps: its step tells of one only where the instruction that comes next traps so, and commits that;
-- no delivery tells of any.
use Rattle.std.proofs.Common.{◌≡◌, ℕ, Bool, true, false, [], ◌∷◌, Some, None, refl}
use Rattle.std.proofs.lemmas.Option.{none-some}
use Rattle.std.proofs.lemmas.List.Elements.{All-weaker}
use Rattle.std.specs.Prelude.{Option, All, ◌+◌, ◌==◌, ◌&&◌, if◌then◌else◌}
use Rattle.sim_base.specs.declared.actions.Action.{Action}
use Rattle.sim_base.specs.declared.actions.Action.TheVariants.{Exec}
use Rattle.sim_base.specs.declared.ends.Cause.{Cause}
use Rattle.sim_base.specs.declared.lines.LineData.{LineData}
use Rattle.rv_exec.specs.Access.{Asked}
use Rattle.elf_image.specs.Layout.{Setup}
use Rattle.wire_msg.specs.declared.messages.Msg.{Msg}
use Rattle.wire_msg.specs.declared.messages.Msg.TheVariants.{GetS, GetM, PutM, InvAck, FetchAck, DataS, DataM, Inv, Fetch, FetchInv, Return, Start, Trapped, Limit, Probe, ProbeReply}
use Rattle.wire_msg.specs.declared.lines.Want.{Want}
use Rattle.wire_msg.specs.declared.lines.Want.TheVariants.{Read, Write as ToWrite}
use Rattle.wire_msg.specs.declared.lines.Up.{Up}
use Rattle.wire_msg.specs.declared.lines.Up.TheVariants.{Asks, GivesUp, Acknowledges, HandsOver}
use Rattle.wire_msg.specs.Message.{may_send, line_of, up_of}
use Rattle.tile_core.specs.declared.cores.Status.{Status}
use Rattle.tile_core.specs.declared.cores.Status.TheVariants.{Idle, Miss, Called, AtBarrier, Probing}
use Rattle.tile_core.specs.declared.plans.Plan.{Plan}
use Rattle.tile_core.specs.declared.plans.Plan.TheVariants.{Local, Access, ScFails, Send, Exit, Write, Trap}
use Rattle.tile_core.specs.Gathering.{is_gathered}
use Rattle.tile_core.specs.Core.{line_at, line_missed, next_byte}
use Rattle.tile_core.specs.Plan.{plan_of}
use Rattle.tile_cache.specs.declared.ways.Hold.{Hold}
use Rattle.tile_cache.specs.declared.ways.Hold.TheVariants.{S, M}
use Rattle.tile_cache.specs.declared.ways.Way.{Way}
use Rattle.tile_cache.specs.Cache.{way_of, content_of, victim_of}
use Rattle.clock_policy.specs.Probe.{may_go_on}
use Rattle.tile_node.specs.Tile.{Tile, Act, up_message, access_want, suits, is_only_read}
use Rattle.tile_node.specs.Step.{is_writing, waits_for_limit, looks_around, reads_byte_by, writes, accesses_by, follows, tile_step}
use Rattle.tile_node.specs.Deliver.{home_does, put_home, victim_mail, hold_suits, data_taken, fetch_by, return_taken, start_taken, limit_taken, reply_taken, taken, tile_delivered}
use Rattle.tile_node.proofs.OneLineSpeaks.{homes_say}
use Rattle.node_machine.proofs.TrappingWords.{TrapFact, Tells, Mails, no_mail, one_mail}

-- what is told of lines tells of no trap

up_tells : (K : TrapFact) (line : ℕ) (says : Up) → Tells K (up_message line says)
up_tells K line (Asks Read) = tt
up_tells K line (Asks ToWrite) = tt
up_tells K line (GivesUp content) = tt
up_tells K line Acknowledges = tt
up_tells K line (HandsOver content) = tt

told_mail : (K : TrapFact) (node line : ℕ) (says : Up) → All (Mails K) ((node, up_message line says) ∷ [])
told_mail K node line says = one_mail K node (up_message line says) (up_tells K line says)

-- a step

-- a tile's next instruction traps so, and this action commits it
pub record Traps (w : Setup) (t : Tile) (action : Option Action) (thread : ℕ) (cause : Cause) (pc : ℕ) : Type 0 where
  pub thread_runs : t.core.thread ≡ thread
  pub pc_is : t.core.pc ≡ pc
  pub traps : plan_of w t.core ≡ Trap cause
  pub commits : action ≡ Some (Exec thread)

abbrev pub MailsTraps : Setup → Tile → Act → Type 0
MailsTraps w t act = All (Mails (Traps w t act.action)) act.mail

nothing : (w : Setup) (t : Tile) (action : Option Action) → All (Mails (Traps w t action)) []
nothing w t action = no_mail (Traps w t action)

other : (w : Setup) (t : Tile) (action : Option Action) (node : ℕ) (msg : Msg) → Tells (Traps w t action) msg → All (Mails (Traps w t action)) ((node, msg) ∷ [])
other w t action node msg known = one_mail (Traps w t action) node msg known

mails_if : (w : Setup) (t : Tile) (b : Bool) (x y : Act) → MailsTraps w t x → MailsTraps w t y → MailsTraps w t (if b then x else y)
mails_if w t true x y one other = one
mails_if w t false x y one other = other

byte_mails : (w : Setup) (t : Tile) (addr : ℕ) (found : Option Way) → MailsTraps w t (reads_byte_by w t addr found)
byte_mails w t addr None = told_mail _ _ (line_at addr) (Asks Read)
byte_mails w t addr (Some way) = nothing w t _

writes_mails : (w : Setup) (t : Tile) → MailsTraps w t (writes w t)
writes_mails w t =
    mails_if w t (is_gathered t.core.write) _ _ (other w t None _ _ tt) (byte_mails w t (next_byte t.core.write) (way_of t.cache (line_at (next_byte t.core.write))))

access_mails : (w : Setup) (t : Tile) (access : Asked) (found : Option Way) → MailsTraps w t (accesses_by w t access found)
access_mails w t access None = told_mail _ _ (line_at access.addr) (Asks (access_want access.op))
access_mails w t access (Some way) = mails_if w t (suits access.op way.hold) _ _ (nothing w t _) (told_mail _ _ (line_at access.addr) (Asks (access_want access.op)))

follows_mails : (w : Setup) (t : Tile) (plan : Plan) → plan_of w t.core ≡ plan → MailsTraps w t (follows w t plan)
follows_mails w t (Local rd value pc cost answered) e = nothing w t _
follows_mails w t (Access access) e = access_mails w t access (way_of t.cache (line_at access.addr))
follows_mails w t (ScFails rd) e = nothing w t _
follows_mails w t (Send call) e = other w t _ _ _ tt
follows_mails w t (Exit code) e = other w t _ _ _ tt
follows_mails w t (Write addr len) e = nothing w t _
follows_mails w t (Trap cause) e = other w t _ _ _ (record { thread_runs = refl; pc_is = refl; traps = e; commits = refl })

pub step_mails : (w : Setup) (t : Tile) → MailsTraps w t (tile_step w t)
step_mails w t =
    mails_if w t (waits_for_limit w.config.policy t.core.clock t.core.limit) _ _ (other w t None _ _ tt)
    (mails_if w t (looks_around w.config.policy w.config.tiles t.core.clock t.core.next_check) _ _ (other w t None _ _ tt)
    (mails_if w t (is_writing t.core.status) _ _ (writes_mails w t) (follows_mails w t (plan_of w t.core) refl)))

-- a delivery

silent_if : (K : TrapFact) (b : Bool) (x y : Act) → All (Mails K) x.mail → All (Mails K) y.mail → All (Mails K) (if b then x else y).mail
silent_if K true x y one other = one
silent_if K false x y one other = other

about_line : (K : TrapFact) (line : ℕ) (msg : Msg) → line_of msg ≡ Some line → Tells K msg
about_line K line (Trapped thread cause pc) e = absurd (none-some line e)
about_line K line _ e = tt

home_silent : (K : TrapFact) (w : Setup) (t : Tile) (from line : ℕ) (says : Up) → All (Mails K) (home_does w t from line says).mail
home_silent K w t from line says =
    All-weaker (λ (m : ℕ × Msg). (up_of m.1 ≡ None) × (line_of m.1 ≡ Some line)) (Mails K) (λ m e. about_line K line m.1 e.1) (home_does w t from line says).mail (homes_say w t from line says)

put_silent : (K : TrapFact) (w : Setup) (line : ℕ) (content : Option LineData) → All (Mails K) (put_home w line content)
put_silent K w line None = no_mail K
put_silent K w line (Some content) = told_mail K _ line (GivesUp content)

victim_silent : (K : TrapFact) (w : Setup) (t : Tile) (victim : Option (ℕ × Hold)) → All (Mails K) (victim_mail w t victim)
victim_silent K w t None = no_mail K
victim_silent K w t (Some (line, M)) = put_silent K w line (content_of t.cache line)
victim_silent K w t (Some (line, S)) = no_mail K

data_silent : (K : TrapFact) (w : Setup) (t : Tile) (line : ℕ) (hold : Hold) (content : LineData) (delay : ℕ) (status : Status) → All (Mails K) (data_taken w t line hold content delay status).mail
data_silent K w t line hold content delay (Miss access) = silent_if K (line_missed t.core.write access == line && hold_suits access hold) _ _ (victim_silent K w t (victim_of t.cache line)) (no_mail K)
data_silent K w t line hold content delay _ = no_mail K

fetch_silent : (K : TrapFact) (t : Tile) (from line : ℕ) (want : Want) (found : Option Way) → All (Mails K) (fetch_by t from line want found).mail
fetch_silent K t from line want None = no_mail K
fetch_silent K t from line want (Some way) = silent_if K (is_only_read way.hold) _ _ (no_mail K) (told_mail K from line (HandsOver way.content))

return_silent : (K : TrapFact) (w : Setup) (t : Tile) (value time limit : ℕ) (status : Status) → All (Mails K) (return_taken w t value time limit status).mail
return_silent K w t value time limit Called = no_mail K
return_silent K w t value time limit _ = no_mail K

start_silent : (K : TrapFact) (w : Setup) (t : Tile) (thread entry arg time limit : ℕ) (status : Status) → All (Mails K) (start_taken w t thread entry arg time limit status).mail
start_silent K w t thread entry arg time limit Idle = no_mail K
start_silent K w t thread entry arg time limit _ = no_mail K

limit_silent : (K : TrapFact) (t : Tile) (limit : ℕ) (status : Status) → All (Mails K) (limit_taken t limit status).mail
limit_silent K t limit (AtBarrier writing) = no_mail K
limit_silent K t limit _ = no_mail K

reply_silent : (K : TrapFact) (w : Setup) (t : Tile) (running : Bool) (clock : ℕ) (status : Status) → All (Mails K) (reply_taken w t running clock status).mail
reply_silent K w t running clock (Probing writing partner replies) =
    silent_if K (may_go_on t.core.clock clock running w.config.slack (replies + 1)) _ _ (no_mail K) (one_mail K partner Probe tt)
reply_silent K w t running clock _ = no_mail K

taken_silent : (K : TrapFact) (w : Setup) (t : Tile) (from : ℕ) (msg : Msg) → All (Mails K) (taken w t from msg).mail
taken_silent K w t from (GetS line) = home_silent K w t from line (Asks Read)
taken_silent K w t from (GetM line) = home_silent K w t from line (Asks ToWrite)
taken_silent K w t from (PutM line content) = home_silent K w t from line (GivesUp content)
taken_silent K w t from (InvAck line) = home_silent K w t from line Acknowledges
taken_silent K w t from (FetchAck line content) = home_silent K w t from line (HandsOver content)
taken_silent K w t from (DataS line content delay) = data_silent K w t line S content delay t.core.status
taken_silent K w t from (DataM line content delay) = data_silent K w t line M content delay t.core.status
taken_silent K w t from (Inv line) = told_mail K from line Acknowledges
taken_silent K w t from (Fetch line) = fetch_silent K t from line Read (way_of t.cache line)
taken_silent K w t from (FetchInv line) = fetch_silent K t from line ToWrite (way_of t.cache line)
taken_silent K w t from (Return value time limit) = return_silent K w t value time limit t.core.status
taken_silent K w t from (Start thread entry arg time limit) = start_silent K w t thread entry arg time limit t.core.status
taken_silent K w t from (Limit limit) = limit_silent K t limit t.core.status
taken_silent K w t from Probe = one_mail K from _ tt
taken_silent K w t from (ProbeReply running clock) = reply_silent K w t running clock t.core.status
taken_silent K w t from _ = no_mail K

pub delivered_silent : (K : TrapFact) (w : Setup) (t : Tile) (from : ℕ) (msg : Msg) → All (Mails K) (tile_delivered w t from msg).mail
delivered_silent K w t from msg = silent_if K (may_send w.config from t.number msg) _ _ (taken_silent K w t from msg) (no_mail K)
