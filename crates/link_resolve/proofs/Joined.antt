-- The rows of all names, or the first refusal, are those of the scope.
use Rattle.std.proofs.Common.{◌≡◌, ℕ, false, ◌||◌, ◌&&◌, List, [], ◌∷◌, map, filter_map, ◌+◌, Option, Some, None, option_map, unwrap_or, Result, Ok, Err, inl, inr, length, ◌≤◌, arith, refl, ap, ◌∙◌}
use Rattle.std.specs.List.{cons_option, list_any}
use Rattle.std.proofs.lemmas.List.{length-map}
use Rattle.std.specs.Option.{option_or}
use Rattle.std.proofs.Math.Path.{fun_ext}
use denote.Ref.{Bor}
use Rattle.ifs_bytes.specs.Outcome.{UnlessMemory, ◌>>=◌}
use Rattle.ifs_interface.specs.Triple.{same_name}
use Rattle.link_core.specs.declared.refusal.LinkRefusal.{LinkRefusal}
use Rattle.link_core.specs.declared.refusal.LinkStop.{LinkStop}
use Rattle.link_core.specs.declared.refusal.LinkStop.TheVariants as stops
use Rattle.link_core.specs.declared.input.Lib.{Lib}
use Rattle.link_core.specs.declared.resolution.Resolution.{Resolution}
use Rattle.link_core.specs.Side.{held_by, libraries_of}
use Rattle.ifs_interface.specs.Facts.{Facts}
use Rattle.link_binding.specs.declared.library.HeldLib.{HeldLib}
use Rattle.link_binding.specs.Libraries.{libraries_seen, seen, side_of}
use Rattle.link_core.specs.declared.resolution.Member.{Member}
use Rattle.link_core.specs.declared.resolution.NameRow.{NameRow}
use Rattle.link_core.specs.Lists.{first_some, unrefused}
use Rattle.link_core.specs.Mentions.{mentioned_names}
use Rattle.link_core.specs.OutputNames.{Output, Piece, outputs_of}
use Rattle.link_core.specs.Provided.{always_provided, bounded_name, has_bounds, is_identifier, is_provided}
use Rattle.link_core.specs.Resolution.{Scope, duplicate_in, hidden_in, library_undefined, names_of, no_entry, resolution_in, undefined_in}
use Rattle.link_mentions.specs.ByName.{by_name}
use Rattle.link_names.specs.declared.names.Name.{Name}
use Rattle.link_names.specs.Bounds.{has_name, is_provided_by}
use Rattle.link_names.specs.Named.{name_by, stopped_by}
use Rattle.link_outputs.specs.Grouped.{AreNamesOf, grouped}
use Rattle.link_outputs.proofs.Grouping.{outputs_grouped}
use Rattle.link_resolve.specs.Names as meant
use Rattle.link_resolve.proofs.Listed.{stop_or, stopped_with}
use Rattle.link_resolve.proofs.Named.{hidden_are, rows_are, twice_are, undefined_are}
use Rattle.link_resolve.proofs.Wanted.{entry_is, libraries_are}

-- ---- the names that a link provides

pub provided_same : (pieces : List Piece) (sections : List (Bor (List ℕ))) → AreNamesOf (grouped pieces) sections
    → (n : List ℕ) → is_provided_by sections n ≡ is_provided (outputs_of pieces) n
unfolding is_provided
provided_same pieces sections are n =
    let bounds : (λ k. is_identifier k && has_name k sections) ≡ has_bounds (outputs_of pieces) =
    fun_ext (λ k. ap (λ t. is_identifier k && t) (are.same_names k ∙ ap (λ outputs. list_any (λ (o : Output). same_name o.name k) outputs) (outputs_grouped pieces))) in
    ap (λ test. list_any (same_name n) always_provided || unwrap_or (option_map test (bounded_name n)) false) bounds

-- ---- one refusal after the other

chain : (a b c d e : Option LinkRefusal) (s : Scope) (dropped : List Member) (names : List Name) (rows : List NameRow) → map (λ (n : Name). n.row) names ≡ rows
    → meant.with_rows s.options s.libraries dropped (meant.rows_by (option_or a (option_or b (option_or c (option_or d e)))) names)
    ≡ meant.stopped (unrefused a >>= (λ _. unrefused b >>= (λ _. unrefused c >>= (λ _. unrefused d >>= (λ _. unrefused e >>= (λ _. Ok (meant.resolved_with s.options s.libraries dropped rows)))))))
chain (Some a) b c d e s dropped names rows are = refl
chain None (Some b) c d e s dropped names rows are = refl
chain None None (Some c) d e s dropped names rows are = refl
chain None None None (Some d) e s dropped names rows are = refl
chain None None None None (Some e) s dropped names rows are = refl
chain None None None None None s dropped names rows are = ap (λ rows. Ok (meant.resolved_with s.options s.libraries dropped rows)) are

module _ (s : Scope) (sections : List (Bor (List ℕ))) (same : (n : List ℕ) → is_provided_by sections n ≡ is_provided s.outputs n) where
  names_same : meant.names_by s.options s.libraries sections (by_name s.mentions) ≡ meant.names_in s
  unfolding meant.names_in
  names_same = ap (λ provided. map (name_by s.options s.libraries provided) (by_name s.mentions)) (fun_ext same)

  abbrev refused_in : Option LinkRefusal
  refused_in =
      option_or (first_some (duplicate_in s) (mentioned_names s.mentions))
      (option_or (first_some (hidden_in s) (mentioned_names s.mentions))
      (option_or (first_some (undefined_in s) (mentioned_names s.mentions))
      (option_or (library_undefined s) (no_entry s))))

  refusal_is : meant.refused_by s.options s.libraries sections (by_name s.mentions) (meant.names_in s) ≡ refused_in
  refusal_is = λ i. option_or (twice_are s i) (option_or (hidden_are s i) (option_or (undefined_are s i) (option_or (libraries_are s sections same i) (entry_is s i))))

  pub joined : (dropped : List Member) → meant.with_rows s.options s.libraries dropped (meant.rows_in s.options s.libraries sections (by_name s.mentions)) ≡ meant.stopped (resolution_in s dropped)
  unfolding resolution_in
  joined dropped =
      ap (λ names. meant.with_rows s.options s.libraries dropped (meant.rows_by (meant.refused_by s.options s.libraries sections (by_name s.mentions) names) names)) names_same
      ∙ ap (λ refusal. meant.with_rows s.options s.libraries dropped (meant.rows_by refusal (meant.names_in s))) refusal_is
      ∙ chain (first_some (duplicate_in s) (mentioned_names s.mentions)) (first_some (hidden_in s) (mentioned_names s.mentions))
      (first_some (undefined_in s) (mentioned_names s.mentions)) (library_undefined s) (no_entry s) s dropped (meant.names_in s) (names_of s) (rows_are s)

  pub with_ok : (dropped : List Member) (rows : List NameRow) (r : Result Resolution LinkStop)
      → UnlessMemory stops.Memory (Ok rows) (meant.rows_in s.options s.libraries sections (by_name s.mentions))
      → UnlessMemory stops.Memory r (Ok (meant.resolved_with s.options s.libraries dropped rows))
      → UnlessMemory stops.Memory r (meant.stopped (resolution_in s dropped))
  with_ok dropped rows r (inl e) u = absurd (cc)
  with_ok dropped rows r (inr e) (inl memory) = inl memory
  with_ok dropped rows r (inr e) (inr is) = inr (is ∙ ap (meant.with_rows s.options s.libraries dropped) e ∙ joined dropped)

  pub with_err : (dropped : List Member) (stop : LinkStop) → UnlessMemory stops.Memory (Err stop) (meant.rows_in s.options s.libraries sections (by_name s.mentions))
      → UnlessMemory stops.Memory (Err stop) (meant.stopped (resolution_in s dropped))
  with_err dropped stop (inl e) = inl (ap stopped_with (ap (stop_or stop) e))
  with_err dropped stop (inr e) = inr (ap (meant.with_rows s.options s.libraries dropped) e ∙ joined dropped)

-- ---- checks before

pub refuses : (o : Option LinkRefusal) (next : Result Resolution LinkRefusal) (stop : LinkStop) → Err stop ≡ stopped_by o → Err stop ≡ meant.stopped (unrefused o >>= (λ _. next))
refuses None next stop e = absurd (cc)
refuses (Some refusal) next stop e = ap stopped_with (ap (stop_or stop) e)

pub passes : (o : Option LinkRefusal) (next : Result Resolution LinkRefusal) (u : Unit {0}) → Ok u ≡ stopped_by o → meant.stopped next ≡ meant.stopped (unrefused o >>= (λ _. next))
passes None next u e = refl
passes (Some refusal) next u e = absurd (cc)

one_fewer : {Y : Type 0} (o : Option Y) (ys : List Y) (n : ℕ) → length ys ≤ n → length (cons_option o ys) ≤ n + 1
one_fewer None ys n le = omega (arith, le)
one_fewer (Some y) ys n le = omega (arith, le)

fewer : {X Y : Type 0} (f : X → Option Y) (xs : List X) → length (filter_map f xs) ≤ length xs
fewer f [] = omega (arith)
fewer f (x ∷ xs) = let le = one_fewer (f x) (filter_map f xs) (length xs) (fewer f xs) in omega (arith, le)

pub held_few : {S : Type 0} (facts : S → Facts) (libs : List (Lib S)) (held : List (HeldLib S)) → libraries_seen facts held ≡ libraries_of (map (side_of facts) libs)
    → length libs ≤ 256 → length held ≤ 256
held_few facts libs held e few =
    let seen_all : length (libraries_seen facts held) ≡ length held = length-map held (seen facts) in
    let all : length (map (side_of facts) libs) ≡ length libs = length-map libs (side_of facts) in
    omega (arith, seen_all, all, ap length e, fewer held_by (map (side_of facts) libs), few)
