-- A stable sort of mentions, and the mentions of each name in it.
use Rattle.std.proofs.Common.{◌≡◌, ℕ, Bool, List, filter, sym, ◌∙◌}
use Rattle.std.specs.List.Sorted.{IsSortedBy, IsStableBy, ties}
use Rattle.std.specs.Cmp.{IsStrictWeakOrder}
use Rattle.std.specs.Cmp.Lexicographic.{nat_list_cmp_total}
use Rattle.std.proofs.lemmas.List.Elements.{filter_agree}
use Rattle.std.proofs.lemmas.List.Sorted.{ranks_by}
use Rattle.elf_object.specs.declared.symbol.ObjPlace.TheVariants.{Undefined}
use Rattle.ifs_interface.specs.Triple.{same_name}
use Rattle.ifs_interface.specs.Interface.{comes_before}
use Rattle.ifs_interface.proofs.NameOrder.{same_ties}
use Rattle.ifs_interface.proofs.Groups.{same_groups}
use Rattle.link_core.specs.Mentions.{Mention, mentioned_names}
use Rattle.link_mentions.specs.ByName.{name_of, by_name, IsSortedByName}

abbrev pub before : Mention → Mention → Bool
before one other = comes_before one.symbol.name other.symbol.name

pub before_ranks : IsStrictWeakOrder before
before_ranks = ranks_by nat_list_cmp_total name_of

-- some mention of a name
a_mention : List ℕ → Mention
a_mention name = record { object = 0; row = 0; symbol = record { name = name; binding = 0; kind = 0; visibility = 0; place = Undefined; value = 0; size = 0 } }

named_by_ties : (name : List ℕ) (mentions : List Mention) → filter (λ m. same_name m.symbol.name name) mentions ≡ filter (ties before (a_mention name)) mentions
unfolding a_mention
named_by_ties name mentions =
    filter_agree (λ m. same_name m.symbol.name name) (ties before (a_mention name)) (λ m. same_ties m.symbol.name name) mentions

pub sorted_by_name : (old new : List Mention) → IsSortedBy before new → IsStableBy before old new → IsSortedByName old new
sorted_by_name old new up stable = record {
  rising = up;
  same_mentions = λ name. named_by_ties name new ∙ stable (a_mention name) ∙ sym (named_by_ties name old);
}

-- sorted mentions have the runs of those that were sorted
pub sorted_runs : (mentions sorted : List Mention) → IsSortedByName mentions sorted → by_name sorted ≡ by_name mentions
unfolding by_name mentioned_names
sorted_runs mentions sorted is = same_groups name_of sorted mentions is.same_mentions
