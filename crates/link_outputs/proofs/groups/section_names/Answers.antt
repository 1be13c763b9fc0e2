use Rattle.std.proofs.Common.{ℕ, List, map, ap, sym, ◌∙◌, rules}
use Rattle.std.specs.Cmp.Lexicographic.{nat_list_cmp_total}
use Rattle.std.proofs.lemmas.List.{take_all}
use Rattle.std.proofs.lemmas.List.Sorted.{ranks_by, answers_always, list_any-IsPermutation}
use denote.Ref.{Bor}
use Rattle.ifs_interface.specs.Triple.{same_name}
use Rattle.link_outputs.proofs.Grouping.{names_of}
use Rattle.link_outputs.proofs.groups.section_names.Goals as goal

pub returns : goal.returns
returns c =
    let all = c.loop-group.invariant ∙ ap (map (λ g. g.output.name)) (take_all c.loop-group.group-index c.args.groups.now c.loop-group-test.false) in
    record {
      rising = c.sort_unstable_by.ensures.sorted _ (ranks_by nat_list_cmp_total (λ (n : Bor (List ℕ)). n.now)) (answers_always _ _ _ (λ f a r h. search rules));
      same_names = λ name. sym (list_any-IsPermutation (λ (n : Bor (List ℕ)). same_name n.now name) _ _ c.sort_unstable_by.ensures.permutation)
          ∙ names_of c.loop-group.names.items c.args.groups.now name all;
    }
