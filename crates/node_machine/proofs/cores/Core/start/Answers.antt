-- One more node of the start, which has made no event; and all of them.
use Rattle.std.proofs.Common.{◌≡◌, ◌≤◌, [], ◌∷◌, ◌++◌, length, map, sym, ap, subst, ◌∙◌, arith, rules}
use Rattle.std.specs.Prelude.{All}
use Rattle.std.specs.List.{range_with_len}
use Rattle.std.proofs.lemmas.List.{length-replicate, replicate_more}
use Rattle.std.proofs.lemmas.List.FromFn.{length-map-range_with_len, map-range_with_len_more}
use Rattle.sim_base.specs.Numbering.{node_count}
use Rattle.node_machine.specs.Machine.{start_node, IsNode}
use Rattle.node_machine.specs.Inner.{AreNodes}
use Rattle.node_machine.proofs.MakeLemmas.{nodes_push, zeros_fit}
use Rattle.node_machine.proofs.cores.Core.start.Goals as goal

pub loop-id-preserved : goal.loop-id-preserved
loop-id-preserved c =
    let w = c.args.world.now in
    let id = c.loop-id.id in
    let before = c.loop-id.nodes.items in
    let node = c.in_ok-start.field-0 in
    let node_is : node ≡ start_node w id = search rules in
    let pushed : c.push.new.self.items ≡ before ++ node ∷ [] = search rules in
    let counted : c.push-in-loop-id.new.self.items ≡ c.loop-id.made.items ++ 0 ∷ [] = search rules in
    let length_is : length before ≡ id = ap length c.loop-id.invariant.nodes ∙ length-map-range_with_len (start_node w) 0 id in
    let fits : IsNode w id node = search rules in
    record {
      nodes = pushed ∙ ap (λ xs. xs ++ node ∷ []) c.loop-id.invariant.nodes ∙ ap (λ x. map (start_node w) (range_with_len 0 id) ++ x ∷ []) node_is
          ∙ sym (map-range_with_len_more (start_node w) 0 id id (omega arith));
      fits = subst (AreNodes w) (sym pushed) (nodes_push w before node c.loop-id.invariant.fits (subst (λ n. IsNode w n node) (sym length_is) fits));
      made = counted ∙ ap (λ xs. xs ++ 0 ∷ []) c.loop-id.invariant.made ∙ replicate_more id 0;
    }

pub of_parts-requires-clause-parts : goal.of_parts-requires-clause-parts
of_parts-requires-clause-parts c =
    let w = c.args.world.now in
    let id = c.loop-id.id in
    let all : id ≡ node_count w.config = search rules in
    record {
      each_node = ap length c.loop-id.invariant.nodes ∙ length-map-range_with_len (start_node w) 0 id ∙ all;
      fits = c.loop-id.invariant.fits;
      each_count = ap length c.loop-id.invariant.made ∙ length-replicate id 0 ∙ all;
      room = subst (All (λ n. n ≤ w.config.events)) (sym c.loop-id.invariant.made) (zeros_fit w.config.events id);
    }
