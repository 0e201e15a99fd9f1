-- Threads that are woken one after the other.
use Rattle.std.proofs.Common.{◌≡◌, ℕ, List, [], ◌∷◌, ◌++◌, map, refl, sym, ap, ◌∙◌, subst}
use Rattle.std.proofs.lemmas.List.{map-append, append_assoc}
use Rattle.wire_msg.specs.declared.messages.Msg.{Msg}
use Rattle.serving.specs.Serving.{Woken, woken_with}
use Rattle.clock_policy.specs.Epoch.{Epoch, limit_of}
use Rattle.control_server.specs.Control.{Control}
use Rattle.control_server.specs.Serve.{return_to, caller_of, joined_by, join_all, woken_mail}

-- one more is active
join_all-append : (woken : List Woken) (w : Woken) (e : Epoch) → join_all (woken ++ w ∷ []) e ≡ joined_by w.thread (join_all woken e)
join_all-append [] w e = refl
join_all-append (v ∷ woken) w e = join_all-append woken w (joined_by v.thread e)

-- the limit stays the same
pub limit_of-join_all : (woken : List Woken) (e : Epoch) → limit_of (join_all woken e) ≡ limit_of e
limit_of-join_all [] e = refl
limit_of-join_all (w ∷ woken) e = limit_of-join_all woken (joined_by w.thread e)

-- so far these were woken
pub record HasWoken (first now : Control) (time : ℕ) (before after : List (ℕ × Msg)) (threads : List ℕ) : Type 0 where
  pub control : now ≡ record first { epochs = join_all (map (woken_with 0) threads) first.epochs }
  pub mail : after ≡ before ++ woken_mail first time (map (woken_with 0) threads)

pub one_more_woken : (first now next : Control) (time t : ℕ) (before after later : List (ℕ × Msg)) (threads : List ℕ) → HasWoken first now time before after threads
    → next ≡ record now { epochs = joined_by t now.epochs } → later ≡ after ++ return_to (caller_of now t) 0 time (limit_of now.epochs) ∷ [] → HasWoken first next time before later (threads ++ t ∷ [])
one_more_woken first now next time t before after later threads h n m =
    let all : List Woken = map (woken_with 0) threads in
    let more : map (woken_with 0) (threads ++ t ∷ []) ≡ all ++ woken_with 0 t ∷ [] = map-append (woken_with 0) threads (t ∷ []) in
    let mid : Control = record first { epochs = join_all all first.epochs } in
    let last : List (ℕ × Msg) = return_to (caller_of first t) 0 time (limit_of first.epochs) ∷ [] in
    let sent : later ≡ after ++ return_to (caller_of mid t) 0 time (limit_of mid.epochs) ∷ [] = subst (λ c. later ≡ after ++ return_to (caller_of c t) 0 time (limit_of c.epochs) ∷ []) h.control m in
    let sent_now : later ≡ after ++ last = rw limit_of-join_all at sent in
    let join : Control → Control = λ c. record c { epochs = joined_by t c.epochs } in
    let joined : join now ≡ join mid = ap join h.control in
    let with : Epoch → Control = λ e. record first { epochs = e } in
    let together : join mid ≡ with (join_all (map (woken_with 0) (threads ++ t ∷ [])) first.epochs) =
    ap with (sym (join_all-append all (woken_with 0 t) first.epochs) ∙ ap (λ ws. join_all ws first.epochs) (sym more)) in
    record {
      control = n ∙ joined ∙ together;
      mail = sent_now ∙ ap (λ out. out ++ last) h.mail ∙ append_assoc before (woken_mail first time all) last
          ∙ ap (λ out. before ++ out) (sym (map-append (λ w. return_to (caller_of first w.thread) w.value time (limit_of first.epochs)) all (woken_with 0 t ∷ [])) ∙ ap (woken_mail first time) (sym more));
    }
