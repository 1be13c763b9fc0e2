use Rattle.std.proofs.Common.{◌≡◌, ◌<◌, None, Some, [], length, get_or, refl, ap, ◌∙◌}
use Rattle.ifs_interface.specs.Interface.{names_of, first_repeated}
use Rattle.ifs_interface.proofs.Repeats.{ascends-from_sorted, IsLeastRepeated-from_sorted, AreParts-IsPermutation}
use Rattle.ifs_interface.proofs.interface.Interface.new.Goals as goal

pub invariant_of-result : goal.invariant_of-result
invariant_of-result c =
    let sorted = c.sort_by_name.new.symbols.items in
    let none : None ≡ first_repeated (names_of sorted) = c.in-None.ensures.name ∙ ap (λ ys. first_repeated (names_of ys)) c.deref.ensures.value in
    let parts = AreParts-IsPermutation c.args.soname c.args.target c.args.needed.items c.args.symbols.items sorted c.sort_by_name.ensures.same c.requires in
    rw (c.from_vec.ensures, c.from_vec-in-None.ensures) (record { parts = parts; ascending = ascends-from_sorted sorted c.sort_by_name.ensures.sorted none })

pub returns-in-Some : goal.returns-in-Some
returns-in-Some c =
    let sorted = c.sort_by_name.new.symbols.items in
    let within : c.in-Some.place < length sorted = rw c.deref.ensures.value at c.in-Some.ensures.within in
    let some : Some (get_or (names_of sorted) c.in-Some.place []) ≡ first_repeated (names_of sorted) = rw c.deref.ensures.value at c.in-Some.ensures.name in
    IsLeastRepeated-from_sorted c.args.symbols.items sorted c.in-Some.place c.swap_remove.result c.sort_by_name.ensures.same c.sort_by_name.ensures.sorted within c.swap_remove.ensures.value some

pub returns-in-None : goal.returns-in-None
returns-in-None c =
    let sorted = c.sort_by_name.new.symbols.items in
    let none : None ≡ first_repeated (names_of sorted) = c.in-None.ensures.name ∙ ap (λ ys. first_repeated (names_of ys)) c.deref.ensures.value in
    rw (c.from_vec.ensures, c.from_vec-in-None.ensures) (record {
      soname_is = refl;
      target_is = refl;
      needed_is = refl;
      symbols_are = c.sort_by_name.ensures.same;
      ascending = ascends-from_sorted sorted c.sort_by_name.ensures.sorted none;
    })
