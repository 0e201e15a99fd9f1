-- How a run goes on.
use Rattle.std.proofs.Common.{◌≡◌, ℕ, ◌+◌, ◌-◌, ◌≤◌, zero, suc, refl, ap, ◌∙◌, arith, add-one}
use Rattle.std.specs.Prelude.{None}
use Rattle.elf_image.specs.Layout.{Setup}
use Rattle.flat_machine.specs.State.{State, start}
use Rattle.flat_machine.specs.Run.{after, onward, legal_action}

pub after-zero : (w : Setup) → after w 0 ≡ start w
unfolding after
after-zero w = refl

pub after-suc : (w : Setup) (n : ℕ) → after w (suc n) ≡ onward w (after w n)
unfolding after
after-suc w n = refl

pub after-more : (w : Setup) (n : ℕ) → after w (n + 1) ≡ onward w (after w n)
unfolding after
after-more w n = rw add-one refl

-- where no action is legal, the state stays
pub stays : (w : Setup) (s : State) → legal_action w s ≡ None → onward w s ≡ s
stays w s none = rw none refl

after-still : (w : Setup) (n k : ℕ) → legal_action w (after w n) ≡ None → after w (n + k) ≡ after w n
after-still w n zero none = ap (after w) (omega arith)
after-still w n (suc k) none =
    let last : n + suc k ≡ n + k + 1 = omega arith in
    let before : after w (n + k) ≡ after w n = after-still w n k none in
    ap (after w) last ∙ after-more w (n + k) ∙ ap (onward w) before ∙ stays w (after w n) none

pub after-stopped : (w : Setup) (n most : ℕ) → n ≤ most → legal_action w (after w n) ≡ None → after w most ≡ after w n
after-stopped w n most h none = let e : most ≡ n + (most - n) = omega arith in ap (after w) e ∙ after-still w n (most - n) none
