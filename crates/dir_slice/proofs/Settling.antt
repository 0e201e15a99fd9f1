-- The waiting requests, one after the other.
use Rattle.std.proofs.Common.{◌≡◌, ℕ, true, false, List, [], ◌∷◌, ◌++◌, map, refl, sym, ap, ◌∙◌, inl, inr, append_assoc, append-nil, subst}
use Rattle.std.specs.Prelude.{Result, Ok, Err, IfOk}
use Rattle.std.proofs.lemmas.Bool.{cases_Bool}
use Rattle.sim_base.specs.declared.memory.NoMemory.{NoMemory}
use Rattle.sim_base.specs.declared.settings.Config.{Config}
use Rattle.dir_slice.specs.declared.rows.Sends.{Sends}
use Rattle.dir_slice.specs.Line.{Request, State, Home, is_busy, request_row}
use Rattle.dir_slice.specs.Inner.{sent_of, row_of, sent_mail, IsMade}
use Rattle.dir_slice.specs.Directory.{Mail, Step, message, before_mail, in_row_with_delay, fixed_delay, taken_up, settled}
use Rattle.dir_slice.proofs.Sent.{messages-state}

-- it is the list of requests that counts, and not what the home says of those that wait
settled_anyway : (c : Config) (tile line : ℕ) (h : Home) (others requests : List Request) → settled c tile line (record h { waiting = others }) requests ≡ settled c tile line h requests
settled_anyway c tile line h others [] = refl
settled_anyway c tile line h others (q ∷ rest) =
    elim (cases_Bool (is_busy h.state)) [
      | inl t ↦ rw t refl
      | inr t ↦ rw t (ap (before_mail (taken_up c tile line h q).mail) (settled_anyway c tile line (taken_up c tile line h q).home others rest))
    ]

abbrev nothing : Home → Step
nothing h = record { home = h; mail = [] }

-- nothing is taken up while a transaction is under way
settled_busy : (c : Config) (tile line : ℕ) (h : Home) (requests : List Request) → is_busy h.state ≡ true
    → settled c tile line (record h { waiting = requests }) requests ≡ nothing (record h { waiting = requests })
settled_busy c tile line h [] t = refl
settled_busy c tile line h (q ∷ rest) t = rw t refl

-- the first of them is taken up, and then the others
settled_first : (c : Config) (tile line : ℕ) (h : Home) (q : Request) (rest : List Request) → is_busy h.state ≡ false
    → settled c tile line (record h { waiting = q ∷ rest }) (q ∷ rest)
    ≡ before_mail (taken_up c tile line (record h { waiting = rest }) q).mail (settled c tile line (taken_up c tile line (record h { waiting = rest }) q).home rest)
settled_first c tile line h q rest t =
    let s : Step = taken_up c tile line (record h { waiting = rest }) q in
    rw t (ap (before_mail s.mail) (settled_anyway c tile line s.home (q ∷ rest) rest))

-- what is left to take up, and to send, at a home after some of the waiting requests were taken up
pub record IsLeft (c : Config) (tile line : ℕ) (first : Home) (out_first : Mail) (now : Home) (out_now : Mail) : Type 0 where
  pub home : (settled c tile line now now.waiting).home ≡ (settled c tile line first first.waiting).home
  pub mail : out_now ++ (settled c tile line now now.waiting).mail ≡ out_first ++ (settled c tile line first first.waiting).mail

-- the first of the waiting requests was taken up
pub one_taken_up : (c : Config) (tile line : ℕ) (first : Home) (out_first : Mail) (now : Home) (out_now : Mail) (q : Request) (rest : List Request) (next : Home) (out_next : Mail)
    → IsLeft c tile line first out_first now out_now → is_busy now.state ≡ false → now.waiting ≡ q ∷ rest
    → IsMade (taken_up c tile line (record now { waiting = rest }) q) next out_now out_next → IsLeft c tile line first out_first next out_next
one_taken_up c tile line first out_first now out_now q rest next out_next left free waits made =
    let s : Step = taken_up c tile line (record now { waiting = rest }) q in
    let later : Step = settled c tile line s.home rest in
    let first_then : settled c tile line now now.waiting ≡ before_mail s.mail later
    = subst (λ requests. settled c tile line (record now { waiting = requests }) requests ≡ before_mail s.mail later) (sym waits) (settled_first c tile line now q rest free) in
    rw (made.home, made.mail) (record {
      home = ap (λ step. step.home) (sym first_then) ∙ left.home;
      mail = append_assoc out_now s.mail later.mail ∙ ap (λ step. out_now ++ step.mail) (sym first_then) ∙ left.mail;
    })

-- nothing is left where a transaction is under way
pub none_left_busy : (c : Config) (tile line : ℕ) (first : Home) (out_first : Mail) (now : Home) (out_now : Mail)
    → IsLeft c tile line first out_first now out_now → is_busy now.state ≡ true → IsMade (settled c tile line first first.waiting) now out_first out_now
none_left_busy c tile line first out_first now out_now left busy =
    let e : settled c tile line now now.waiting ≡ nothing now = settled_busy c tile line now now.waiting busy in
    record { home = ap (λ s. s.home) (sym e) ∙ left.home; mail = sym (append-nil out_now) ∙ ap (λ s. out_now ++ s.mail) (sym e) ∙ left.mail }

-- what a request's row sends, with its delay, is what is sent where the request is taken up
pub mail_taken_up : (c : Config) (tile line : ℕ) (h : Home) (q : Request) (state : State) (sends : Sends) (d : ℕ) (result : Result (Unit {0}) NoMemory) (out_old out_new : Mail)
    → row_of state sends ≡ request_row h.state q.want q.from → d ≡ fixed_delay c tile q.from state
    → IfOk result (λ done. out_new ≡ out_old ++ sent_mail line (record h { state = state; delay = d }) sends)
    → IfOk result (λ done. out_new ≡ out_old ++ (taken_up c tile line h q).mail)
mail_taken_up c tile line h q state sends d (Ok done) out_old out_new row delay sent =
    subst (λ r. out_new ≡ out_old ++ (in_row_with_delay c tile line h q r).mail) row
    (sent ∙ ap (λ mail. out_old ++ mail) (messages-state line (record h { delay = d }) state (sent_of state sends)
    ∙ ap (λ x. map (message line (record h { delay = x })) (sent_of state sends)) delay))
mail_taken_up c tile line h q state sends d (Err e) out_old out_new row delay sent = tt
