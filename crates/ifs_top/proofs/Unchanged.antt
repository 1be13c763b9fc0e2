-- Options that change nothing leave an interface as it is.
use Rattle.std.proofs.Common.{◌≡◌, ℕ, Bool, true, false, List, [], ◌∷◌, map, filter, Option, Some, None, Ok, refl, ap}
use Rattle.ifs_bytes.specs.declared.form.Order.{Order}
use Rattle.ifs_bytes.specs.declared.form.Width.{Width}
use Rattle.ifs_interface.specs.declared.symbol.Symbol.{Symbol}
use Rattle.ifs_interface.specs.declared.target.Target.{Target}
use Rattle.ifs_interface.specs.declared.target.TargetField.{TargetField}
use Rattle.ifs_interface.specs.Interface.{InterfaceRecord}
use Rattle.ifs_interface.specs.Parts.{parts_of}
use Rattle.ifs_edit.specs.declared.adjusted.AdjustOptions.{AdjustOptions}
use Rattle.ifs_edit.specs.declared.element.Element.{Element}
use Rattle.ifs_edit.specs.declared.strip.Strip.{Strip}
use Rattle.ifs_edit.specs.Adjusted.{adjusted, agree, changed, filled, is_kept, kept_symbols, or_given, sized, targets_agree}
use Rattle.ifs_edit.specs.Stripped.{no_target, stripped, target_left}
use Rattle.ifs_top.specs.Unchanged.{changes_nothing, strips_nothing}

-- the options that change nothing
abbrev none : AdjustOptions
none = record { given = no_target; soname = None; exclude = []; strip_undefined = false; strip_needed = false; strip_size = false }

agree_with_none : {X : Type 0} (field : TargetField) (same : X → X → Bool) (name : X → List ℕ) (there : Option X) → agree field same name there None ≡ Ok tt
agree_with_none field same name None = refl
agree_with_none field same name (Some there) = refl

targets_agree_with_none : (there : Target) → targets_agree there no_target ≡ Ok tt
unfolding targets_agree
targets_agree_with_none there =
    rw (agree_with_none _ _ _ there.triple, agree_with_none _ _ _ (parts_of there).machine, agree_with_none _ _ _ (parts_of there).width) (agree_with_none _ _ _ (parts_of there).order)

or_none : {X : Type 0} (there : Option X) → or_given there None ≡ there
or_none None = refl
or_none (Some x) = refl

filled_with_none : (triple : Option (List ℕ)) (machine : Option ℕ) (order : Option Order) (width : Option Width)
    → filled (record { triple = triple; machine = machine; order = order; width = width }) no_target ≡ record { triple = triple; machine = machine; order = order; width = width }
filled_with_none None machine order width = rw (or_none machine, or_none order, or_none width) refl
filled_with_none (Some triple) machine order width = refl

all_kept : (symbols : List Symbol) → map (sized false) (filter (is_kept none) symbols) ≡ symbols
all_kept [] = refl
all_kept (s ∷ ss) = ap (λ xs. s ∷ xs) (all_kept ss)

nothing_changed : (i : InterfaceRecord) → adjusted i none ≡ Ok i
unfolding adjusted changed kept_symbols
nothing_changed i =
    rw (targets_agree_with_none i.target, filled_with_none i.target.triple i.target.machine i.target.order i.target.width, all_kept i.symbols) refl

by_fields : (i : InterfaceRecord) (triple : Option (List ℕ)) (machine : Option ℕ) (order : Option Order) (width : Option Width) (soname : Option (List ℕ)) (exclude : List (List Element)) (undefined needed size : Bool)
    → changes_nothing (record { given = record { triple = triple; machine = machine; order = order; width = width }; soname = soname; exclude = exclude; strip_undefined = undefined; strip_needed = needed; strip_size = size }) ≡ true
    → adjusted i (record { given = record { triple = triple; machine = machine; order = order; width = width }; soname = soname; exclude = exclude; strip_undefined = undefined; strip_needed = needed; strip_size = size }) ≡ Ok i
by_fields i (Some t) machine order width soname exclude undefined needed size h = absurd cc
by_fields i None (Some m) order width soname exclude undefined needed size h = absurd cc
by_fields i None None (Some o) width soname exclude undefined needed size h = absurd cc
by_fields i None None None (Some w) soname exclude undefined needed size h = absurd cc
by_fields i None None None None (Some s) exclude undefined needed size h = absurd cc
by_fields i None None None None None (e ∷ es) undefined needed size h = absurd cc
by_fields i None None None None None [] true needed size h = absurd cc
by_fields i None None None None None [] false true size h = absurd cc
by_fields i None None None None None [] false false true h = absurd cc
by_fields i None None None None None [] false false false h = nothing_changed i

pub unchanged : (i : InterfaceRecord) (options : AdjustOptions) → changes_nothing options ≡ true → adjusted i options ≡ Ok i
unchanged i o h = by_fields i o.given.triple o.given.machine o.given.order o.given.width o.soname o.exclude o.strip_undefined o.strip_needed o.strip_size h

-- ---- stripping

left_whole : (arch width order target : Bool) (there : Target) → strips_nothing (record { arch = arch; width = width; order = order; target = target }) ≡ true
    → target_left (record { arch = arch; width = width; order = order; target = target }) there ≡ there
left_whole true width order target there h = absurd cc
left_whole false true order target there h = absurd cc
left_whole false false true target there h = absurd cc
left_whole false false false true there h = absurd cc
left_whole false false false false there h = refl

pub unstripped : (i : InterfaceRecord) (strip : Strip) → strips_nothing strip ≡ true → stripped i strip ≡ i
unstripped i s h = ap (λ (t : Target). record i { target = t }) (left_whole s.arch s.width s.order s.target i.target h)
