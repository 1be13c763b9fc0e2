-- A stable sort of references to symbols, and the symbols of each name in it.
use Rattle.std.proofs.Common.{◌≡◌, ℕ, Bool, false, List, filter, None, sym, ap, ◌∙◌}
use Rattle.std.specs.List.Sorted.{IsSortedBy, IsStableBy, ties}
use Rattle.std.specs.Cmp.{IsStrictWeakOrder}
use Rattle.std.specs.Cmp.Lexicographic.{nat_list_cmp_total}
use Rattle.std.proofs.lemmas.List.Elements.{filter_agree}
use Rattle.std.proofs.lemmas.List.Sorted.{ranks_by}
use denote.Ref.{Bor}
use Rattle.ifs_interface.specs.declared.symbol.Symbol.{Symbol}
use Rattle.ifs_interface.specs.declared.symbol.Kind.TheVariants.{NoType}
use Rattle.ifs_interface.specs.Triple.{same_name}
use Rattle.ifs_interface.specs.Interface.{comes_before}
use Rattle.ifs_interface.proofs.NameOrder.{same_ties}
use Rattle.ifs_interface.proofs.Lists.{filter_map_of}
use Rattle.ifs_interface.proofs.Groups.{same_groups}
use Rattle.ifs_edit.specs.Merged.{by_name}
use Rattle.ifs_edit.specs.Sorted.{pointed, IsSortedByName}

abbrev pub before : Bor Symbol → Bor Symbol → Bool
before one other = comes_before one.now.name other.now.name

pub before_ranks : IsStrictWeakOrder before
before_ranks = ranks_by nat_list_cmp_total (λ s. s.now.name)

-- a reference to some symbol of a name
a_symbol : List ℕ → Bor Symbol
a_symbol name = record { ref_ptr = (0, 0); now = record { name = name; kind = NoType; size = None; weak = false; undefined = false; warning = None } }

named_by_ties : (name : List ℕ) (symbols : List (Bor Symbol)) → filter (λ s. same_name s.name name) (pointed symbols) ≡ pointed (filter (ties before (a_symbol name)) symbols)
unfolding a_symbol
named_by_ties name symbols =
    filter_map_of (λ s. same_name s.name name) (λ s. s.now) symbols
    ∙ ap pointed (filter_agree (λ s. same_name s.now.name name) (ties before (a_symbol name)) (λ s. same_ties s.now.name name) symbols)

pub sorted_by_name : (symbols : List Symbol) (old new : List (Bor Symbol)) → pointed old ≡ symbols → IsSortedBy before new → IsStableBy before old new → IsSortedByName symbols new
sorted_by_name symbols old new same up stable = record {
  rising = up;
  same_symbols = λ name. named_by_ties name new ∙ ap pointed (stable (a_symbol name)) ∙ sym (named_by_ties name old) ∙ ap (filter (λ s. same_name s.name name)) same;
}

pub sorted_groups : (symbols : List Symbol) (sorted : List (Bor Symbol)) → IsSortedByName symbols sorted → by_name (pointed sorted) ≡ by_name symbols
unfolding by_name
sorted_groups symbols sorted is = same_groups (λ s. s.name) (pointed sorted) symbols is.same_symbols
