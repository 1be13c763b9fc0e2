-- The names of a link with what they are bound to, and the first refusal of any of them.
use Rattle.std.specs.Prelude.{ℕ, List, map, None, Option, Some, Result, Ok, Err, if◌then◌else◌}
use Rattle.std.specs.Option.{option_or}
use denote.Ref.{Bor}
use Rattle.std.specs.Prelude.{Vec}
use Rattle.ifs_bytes.specs.Outcome.{◌>>=◌}
use Rattle.elf_object.specs.Record.{ObjectRecord}
use Rattle.link_core.specs.declared.options.LinkOptions.{LinkOptions}
use Rattle.link_core.specs.declared.refusal.LinkRefusal.{LinkRefusal}
use Rattle.link_core.specs.declared.refusal.LinkStop.{LinkStop}
use Rattle.link_core.specs.declared.refusal.LinkStop.TheVariants as stops
use Rattle.link_core.specs.declared.resolution.Member.{Member}
use Rattle.link_core.specs.declared.resolution.NameRow.{NameRow}
use Rattle.link_core.specs.declared.resolution.Resolution.{Resolution}
use Rattle.link_core.specs.Exports.{is_shared, needed_names}
use Rattle.link_core.specs.Kept.{dropped_sections}
use Rattle.link_core.specs.Lists.{first_some, unrefused}
use Rattle.link_core.specs.Mentions.{Mention, mentions_of, naming}
use Rattle.link_core.specs.OutputNames.{kept_pieces, outputs_of}
use Rattle.link_core.specs.Provided.{is_provided}
use Rattle.link_core.specs.Resolution.{Scope, machine_of, other_machine, resolution_in}
use Rattle.link_core.specs.Side.{Library}
use Rattle.link_mentions.specs.ByName.{by_name}
use Rattle.link_names.specs.declared.names.Name.{Name}
use Rattle.link_names.specs.Bounds.{is_provided_by}
use Rattle.link_names.specs.Named.{hidden_by, name_by, name_with, twice_in, undefined_by}
use Rattle.link_checks.specs.Found.{entry_missing}
use Rattle.link_wants.specs.Least.{is_missing_by}
use Rattle.link_wants.specs.Wants as wants

-- a name by its mentions
abbrev pub name_for : Scope → List ℕ → Name
name_for s name =
    name_with s.options s.libraries (is_provided s.outputs name) name (naming name s.mentions)

-- the names of a scope, in byte order
unfoldable pub names_in : Scope → List Name
names_in s = map (name_by s.options s.libraries (is_provided s.outputs)) (by_name s.mentions)

abbrev pub undefined_in : LinkOptions → List Name → Option LinkRefusal
undefined_in options names = if is_shared options.kind then None else first_some undefined_by names

-- the first refusal: each cause is looked for in all names before the next
abbrev pub refused_by :
    LinkOptions → List Library → List (Bor (List ℕ)) → List (List Mention) → List Name → Option LinkRefusal
refused_by options libraries sections runs names =
    option_or (first_some twice_in runs)
    (option_or (first_some hidden_by names)
    (option_or (undefined_in options names)
    (option_or (wants.undefined_by (is_missing_by names libraries sections) options libraries)
    (entry_missing options names))))

-- the names of these runs of mentions
abbrev pub names_by : LinkOptions → List Library → List (Bor (List ℕ)) → List (List Mention) → List Name
names_by options libraries sections runs =
    map (name_by options libraries (is_provided_by sections)) runs

-- their rows, or the refusal
abbrev pub rows_by : Option LinkRefusal → List Name → Result (List NameRow) LinkStop
rows_by (Some refusal) names = Err (stops.Refused refusal)
rows_by None names = Ok (map (λ n. n.row) names)

-- rows that a vector has
abbrev pub listed : {Z : Type 0} → Result (Vec NameRow Z) LinkStop → Result (List NameRow) LinkStop
listed (Ok rows) = Ok rows.items
listed (Err stop) = Err stop

-- the rows of the names of these runs, or the first refusal
abbrev pub rows_in :
    LinkOptions → List Library → List (Bor (List ℕ)) → List (List Mention) → Result (List NameRow) LinkStop
rows_in options libraries sections runs =
    let names = names_by options libraries sections runs in
    rows_by (refused_by options libraries sections runs names) names

-- a refusal ends a link
abbrev pub stopped : Result Resolution LinkRefusal → Result Resolution LinkStop
stopped (Ok r) = Ok r
stopped (Err refusal) = Err (stops.Refused refusal)

-- what names are looked up in, where these sections are dropped
abbrev pub scope_by : List Member → LinkOptions → List ObjectRecord → List Library → Scope
scope_by dropped options objects libraries = record {
  options = options;
  libraries = libraries;
  mentions = mentions_of dropped objects;
  outputs = outputs_of (kept_pieces dropped objects);
}

-- the resolution with these rows
abbrev pub resolved_with : LinkOptions → List Library → List Member → List NameRow → Resolution
resolved_with options libraries dropped rows = record {
  names = rows;
  needed = needed_names options libraries rows;
  dropped = dropped;
}

-- the same, where there are rows
abbrev pub with_rows :
    LinkOptions → List Library → List Member → Result (List NameRow) LinkStop → Result Resolution LinkStop
with_rows options libraries dropped (Ok rows) = Ok (resolved_with options libraries dropped rows)
with_rows options libraries dropped (Err stop) = Err stop

-- the resolution against these libraries, or the first refusal but that of versions
abbrev pub resolution_with : LinkOptions → List ObjectRecord → List Library → Result Resolution LinkRefusal
resolution_with options objects libraries =
    unrefused (other_machine (machine_of objects) objects libraries)
    >>= (λ _.
    resolution_in (scope_by (dropped_sections objects) options objects libraries) (dropped_sections objects))
