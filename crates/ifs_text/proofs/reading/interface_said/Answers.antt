use Rattle.std.proofs.Common.{◌≡◌, inr, ap, ◌∙◌, Err}
use Rattle.std.specs.List.{filter_map}
use Rattle.ifs_text.specs.Values.{name_in}
use Rattle.ifs_text.specs.Parts.{soname_of, target_of, needed_of, symbols_of}
use Rattle.ifs_text.proofs.Proper.{are_parts}
use Rattle.ifs_text.proofs.Said.{said_ok, said_err}
use Rattle.ifs_text.proofs.reading.interface_said.Goals as goal

pub new-requires : goal.new-requires
new-requires c =
    let entries = c.args.entries.now in
    let soname : c.in_ok-soname.soname ≡ soname_of entries = c.in_ok-soname.ensures ∙ c.said_soname.ensures in
    let target : c.in_ok-target.target ≡ target_of entries = c.in_ok-target.ensures in
    let needed : c.in_ok-needed.needed.items ≡ needed_of entries = c.in_ok-needed.ensures ∙ ap (filter_map name_in) c.listed_at.ensures in
    let symbols : c.in_ok-symbols.symbols.items ≡ symbols_of entries = c.in_ok-symbols.ensures in
    rw (soname, target, needed, symbols) (are_parts entries)

pub returns-in-Ok : goal.returns-in-Ok
returns-in-Ok c =
    let entries = c.args.entries.now in
    let soname : c.in_ok-soname.soname ≡ soname_of entries = c.in_ok-soname.ensures ∙ c.said_soname.ensures in
    let target : c.in_ok-target.target ≡ target_of entries = c.in_ok-target.ensures in
    let needed : c.in_ok-needed.needed.items ≡ needed_of entries = c.in_ok-needed.ensures ∙ ap (filter_map name_in) c.listed_at.ensures in
    let symbols : c.in_ok-symbols.symbols.items ≡ symbols_of entries = c.in_ok-symbols.ensures in
    inr (said_ok entries c.in-Ok.interface (rw (soname, target, needed, symbols) at c.in-Ok.ensures))

pub returns-in_ok-repeated-in-Err : goal.returns-in_ok-repeated-in-Err
returns-in_ok-repeated-in-Err c =
    let entries = c.args.entries.now in
    let symbols : c.in_ok-symbols.symbols.items ≡ symbols_of entries = c.in_ok-symbols.ensures in
    inr (ap Err c.in_ok-repeated-in-Err.ensures ∙ said_err entries c.in-Err.least (rw symbols at c.in-Err.ensures))
