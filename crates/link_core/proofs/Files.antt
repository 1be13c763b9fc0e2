-- The name of a library's file.
use Rattle.std.proofs.Common.{◌≡◌, ℕ, List, ◌∷◌, ◌++◌, sym, ap, ◌∙◌}
use Rattle.std.specs.Prelude.{Some, unwrap_or}
use Rattle.ifs_interface.specs.Facts.{Facts}
use Rattle.elf_object.specs.Record.{ObjectRecord}
use Rattle.link_core.specs.declared.options.LinkOptions.{LinkOptions}
use Rattle.link_core.specs.Resolution.{resolution_of}
use Rattle.link_core.specs.Side.{Side, Held, library_named}

same_library : (facts : Facts) (soname one other : List ℕ) → facts.soname ≡ Some soname → library_named one facts ≡ library_named other facts
same_library facts soname one other e =
    let names : unwrap_or facts.soname one ≡ unwrap_or facts.soname other = ap (λ s. unwrap_or s one) e ∙ sym (ap (λ s. unwrap_or s other) e) in
    λ i. record { name = names i; facts = facts }

pub files_say_nothing : (options : LinkOptions) (objects : List ObjectRecord) (before after : List Side) (facts : Facts) (soname one other : List ℕ) → facts.soname ≡ Some soname → resolution_of options objects (before ++ Held (library_named one facts) ∷ after) ≡ resolution_of options objects (before ++ Held (library_named other facts) ∷ after)
files_say_nothing options objects before after facts soname one other e =
    ap (λ library. resolution_of options objects (before ++ Held library ∷ after)) (same_library facts soname one other e)
