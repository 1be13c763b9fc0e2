-- The rows of names, or the first refusal.
use Rattle.std.proofs.Common.{◌≡◌, ℕ, true, Option, Some, None, Result, Ok, Err, inl, inr, List, [], ◌∷◌, map, refl, ap, ◌∙◌}
use denote.Ref.{Bor}
use Rattle.ifs_bytes.specs.Outcome.{UnlessMemory}
use Rattle.ifs_interface.specs.Interface.{ascends}
use Rattle.ifs_interface.proofs.InOrder.{in_order_ascends}
use Rattle.ifs_interface.proofs.Lists.{map_agree}
use Rattle.ifs_interface.proofs.Names.{same_name-is}
use Rattle.link_core.specs.declared.options.LinkOptions.{LinkOptions}
use Rattle.link_core.specs.declared.refusal.LinkRefusal.{LinkRefusal}
use Rattle.link_core.specs.declared.refusal.LinkStop.{LinkStop}
use Rattle.link_core.specs.declared.refusal.LinkStop.TheVariants as stops
use Rattle.link_core.specs.Mentions.{Mention, mentioned_names, naming}
use Rattle.link_core.specs.Side.{Library}
use Rattle.link_mentions.specs.ByName.{by_name, name_of}
use Rattle.link_names.specs.declared.names.Name.{Name}
use Rattle.link_names.specs.Named.{run_name, stopped_by}
use Rattle.link_resolve.specs.Names.{names_by, rows_by}
use Rattle.link_resolve.proofs.Named.{all_right, is_right, map_through}

map_itself : {X : Type 0} (xs : List X) → map (λ x. x) xs ≡ xs
map_itself [] = refl
map_itself (x ∷ xs) = ap (λ ys. x ∷ ys) (map_itself xs)

-- the names of names
pub names_are : (options : LinkOptions) (libraries : List Library) (sections : List (Bor (List ℕ))) (mentions : List Mention)
    → map (λ (n : Name). n.row.name) (names_by options libraries sections (by_name mentions)) ≡ mentioned_names mentions
unfolding by_name
names_are options libraries sections mentions =
    map_through (λ (n : Name). n.row.name) _ (map (λ name. naming name mentions) (mentioned_names mentions))
    ∙ map_through run_name (λ name. naming name mentions) (mentioned_names mentions)
    ∙ map_agree (λ name. run_name (naming name mentions)) (λ name. name) (is_right mentions) (λ n e. same_name-is _ n e) (mentioned_names mentions) (all_right mentions)
    ∙ map_itself (mentioned_names mentions)

pub names_ascend : (options : LinkOptions) (libraries : List Library) (sections : List (Bor (List ℕ))) (mentions : List Mention)
    → ascends (map (λ (n : Name). n.row.name) (names_by options libraries sections (by_name mentions))) ≡ true
unfolding mentioned_names by_name
names_ascend options libraries sections mentions =
    ap ascends (names_are options libraries sections mentions) ∙ in_order_ascends (map name_of mentions)

-- ---- what ends the checks ends the whole

abbrev pub stopped_with : {A : Type 0} → LinkStop → Result A LinkStop
stopped_with stop = Err stop

abbrev pub stop_or : {A : Type 0} → LinkStop → Result A LinkStop → LinkStop
stop_or other (Ok a) = other
stop_or other (Err stop) = stop

pub refused_rows : (refusal : Option LinkRefusal) (names : List Name) (stop : LinkStop)
    → UnlessMemory stops.Memory (Err stop) (stopped_by refusal) → UnlessMemory stops.Memory (Err stop) (rows_by refusal names)
refused_rows refusal names stop (inl memory) = inl (ap stopped_with (ap (stop_or stop) memory))
refused_rows None names stop (inr e) = absurd (cc)
refused_rows (Some refusal) names stop (inr e) = inr (ap stopped_with (ap (stop_or stop) e))
