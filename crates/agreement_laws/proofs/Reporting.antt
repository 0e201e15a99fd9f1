-- What the members of an epoch say of one thread, as members come, go, report and are renewed.
use Rattle.std.proofs.Common.{◌≡◌, ℕ, false, List, [], ◌∷◌, map, Option, Some, None, refl, arith, inl, inr}
use Rattle.std.proofs.lemmas.Bool.Decides.{nat_tests}
use Rattle.std.proofs.lemmas.Bool.{cases_Bool}
use Rattle.std.specs.Prelude.{◌==◌, nat_lt}
use Rattle.clock_policy.specs.declared.members.Member.{Member}
use Rattle.clock_policy.specs.Members.{with_member, without_member, reported, renewed}
use Rattle.agreement_laws.specs.Sides.{reports_of}
use Rattle.agreement_laws.proofs.Moves.{same_is}

pub reports_joined : (u : ℕ) (ms : List Member) → reports_of u ms ≡ [] → reports_of u (with_member u ms) ≡ None ∷ []
reports_joined u [] none = let i = same_is u in cc
reports_joined u (m ∷ ms) none = elim (cases_Bool (m.thread == u)) [
  | inl t ↦ cc
  | inr t ↦
      let turned : (u == m.thread) ≡ false = grind (arith, nat_tests) in
      let rest : reports_of u ms ≡ [] = cc in
      let i = same_is u in
      let ih = reports_joined u ms rest in
      elim (cases_Bool (nat_lt u m.thread)) [ inl l ↦ cc | inr l ↦ cc ]
]

pub reports_joined_there : (u x : ℕ) (ms : List Member) → (u == x) ≡ false → reports_of x (with_member u ms) ≡ reports_of x ms
reports_joined_there u x [] apart = cc
reports_joined_there u x (m ∷ ms) apart =
    let ih = reports_joined_there u x ms apart in
    elim (cases_Bool (u == m.thread)) [
      | inl t ↦ cc
      | inr t ↦ elim (cases_Bool (nat_lt u m.thread)) [
        | inl l ↦ cc
        | inr l ↦ elim (cases_Bool (m.thread == x)) [ inl v ↦ cc | inr v ↦ cc ]
      ]
    ]

pub reports_left : (u : ℕ) (ms : List Member) → reports_of u (without_member u ms) ≡ []
reports_left u [] = refl
reports_left u (m ∷ ms) = let ih = reports_left u ms in elim (cases_Bool (m.thread == u)) [ inl t ↦ cc | inr t ↦ cc ]

pub reports_left_there : (u x : ℕ) (ms : List Member) → (u == x) ≡ false → reports_of x (without_member u ms) ≡ reports_of x ms
reports_left_there u x [] apart = refl
reports_left_there u x (m ∷ ms) apart =
    let ih = reports_left_there u x ms apart in
    elim (cases_Bool (m.thread == u)) [
      | inl t ↦ (let n : (m.thread == x) ≡ false = grind (arith, nat_tests) in cc)
      | inr t ↦ elim (cases_Bool (m.thread == x)) [ inl v ↦ cc | inr v ↦ cc ]
    ]

abbrev pub now_at : ℕ → Option ℕ → Option ℕ
now_at tile report = Some tile

pub reports_made : (u tile : ℕ) (ms : List Member) → reports_of u (reported u tile ms) ≡ map (now_at tile) (reports_of u ms)
reports_made u tile [] = refl
reports_made u tile (m ∷ ms) = let ih = reports_made u tile ms in elim (cases_Bool (m.thread == u)) [ inl t ↦ cc | inr t ↦ cc ]

pub reports_made_there : (u tile x : ℕ) (ms : List Member) → (u == x) ≡ false → reports_of x (reported u tile ms) ≡ reports_of x ms
reports_made_there u tile x [] apart = refl
reports_made_there u tile x (m ∷ ms) apart =
    let ih = reports_made_there u tile x ms apart in
    elim (cases_Bool (m.thread == u)) [
      | inl t ↦ (let n : (m.thread == x) ≡ false = grind (arith, nat_tests) in cc)
      | inr t ↦ elim (cases_Bool (m.thread == x)) [ inl v ↦ cc | inr v ↦ cc ]
    ]

abbrev pub no_more : Option ℕ → Option ℕ
no_more report = None

pub reports_renewed : (u : ℕ) (ms : List Member) → reports_of u (map renewed ms) ≡ map no_more (reports_of u ms)
reports_renewed u [] = refl
reports_renewed u (m ∷ ms) = let ih = reports_renewed u ms in elim (cases_Bool (m.thread == u)) [ inl t ↦ cc | inr t ↦ cc ]
