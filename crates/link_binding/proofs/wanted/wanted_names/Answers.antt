use Rattle.std.proofs.Common.{sym, ◌∙◌, rules}
use Rattle.std.specs.Cmp.Lexicographic.{nat_list_cmp_total}
use Rattle.std.proofs.lemmas.List.Sorted.{ranks_by, answers_always, list_any-IsPermutation}
use Rattle.ifs_interface.specs.declared.shared_lib.Wanted.{Wanted}
use Rattle.ifs_interface.specs.Triple.{same_name}
use Rattle.link_binding.proofs.wanted.wanted_names.Goals as goal

pub returns : goal.returns
returns g c = record {
  rising = c.sort_unstable_by.ensures.sorted _ (ranks_by nat_list_cmp_total (λ (w : Wanted). w.name.now)) (answers_always _ _ _ (λ f a r g h. search rules));
  same_names = λ name. sym (list_any-IsPermutation (λ (w : Wanted). same_name w.name.now name) _ _ c.sort_unstable_by.ensures.permutation) ∙ c.in_ok-wanted.ensures name;
}
