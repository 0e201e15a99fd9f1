use Rattle.std.proofs.Common.{◌∙◌, length, leb, not, rules, tests}
use Rattle.std.proofs.lemmas.Iterator.{YieldsList-from_slice}
use Rattle.std.proofs.lemmas.Iterator.Search.{position_from_yields_List}
use Rattle.std.proofs.lemmas.List.Sums.{prefix_len-le-length}
use Rattle.clock_policy.specs.declared.members.Member.{Member}
use Rattle.clock_policy.specs.Inner.{member_place}
use Rattle.clock_policy.proofs.MemberLists.{placed}
use Rattle.clock_policy.proofs.epochs.member_place.Goals as goal

pub returns-clause-place : goal.returns-clause-place
returns-clause-place c =
    let found = position_from_yields_List (λ (m : Member). leb c.args.thread m.thread) _ _ c.position-place.result c.position-place.ensures.ran (YieldsList-from_slice c.args.members.now cc) (λ x b q k. search (rules, tests)) in
    c.unwrap_or.ensures ∙ placed c.position-place.result (member_place c.args.thread c.args.members.now) (length c.args.members.now) found (prefix_len-le-length (λ (m : Member). not (leb c.args.thread m.thread)) c.args.members.now)
