use Rattle.std.proofs.Common.{◌≡◌, ◌<◌, ◌^◌, List, Ok, true, sym, ap, ◌∙◌, subst}
use Rattle.std.specs.List.{list_all}
use Rattle.ifs_interface.specs.Interface.{InterfaceRecord, IsInterface}
use Rattle.ifs_interface.specs.Parts.{parts_of}
use Rattle.ifs_interface.specs.declared.symbol.Symbol.{Symbol}
use Rattle.ifs_stub.specs.declared.layout.Form.{Form}
use Rattle.ifs_stub.specs.Laws.{HasStub, size_fits}
use Rattle.ifs_stub.specs.Stub.{form_of, IsWithin}
use Rattle.ifs_stub.proofs.ReadBack.Stubs.{written_is_a_library, written_is_read_back, written_has_the_facts}
use Rattle.ifs_stub.proofs.stub.emit.Goals as goal

-- what the steps of emit give
has_stub : (i : InterfaceRecord) (form : Form) (symbols : List Symbol) → IsInterface i → form.machine < 2 ^ 16 → symbols ≡ i.symbols → list_all (size_fits form.width) symbols ≡ true → IsWithin i → HasStub i form
has_stub i form symbols is machine same fit within = record {
  interface = is;
  machine_fits = machine;
  sizes_fit = subst (λ ss. list_all (size_fits form.width) ss ≡ true) same fit;
  within = within;
}

pub returns-clause-library : goal.returns-clause-library
returns-clause-library c =
    let i = c.args.interface.now in
    let form = c.in_ok-form.form in
    let has = has_stub i form _ c.symbols.ensures.interface c.in_ok-form.ensures.machine c.symbols.ensures.value c.in_ok-check_sizes.ensures.fit c.in_ok-check_limits.ensures.within in
    let formed : form_of (parts_of i.target) ≡ Ok form = sym (c.in_ok-form.ensures.exact ∙ ap form_of (c.parts.ensures ∙ ap parts_of c.target.ensures)) in
    written_is_a_library i form c.in_ok-file_of.field-0.items has formed c.in_ok-file_of.ensures.exact

pub returns-clause-read_back : goal.returns-clause-read_back
returns-clause-read_back c =
    let i = c.args.interface.now in
    let form = c.in_ok-form.form in
    let has = has_stub i form _ c.symbols.ensures.interface c.in_ok-form.ensures.machine c.symbols.ensures.value c.in_ok-check_sizes.ensures.fit c.in_ok-check_limits.ensures.within in
    let formed : form_of (parts_of i.target) ≡ Ok form = sym (c.in_ok-form.ensures.exact ∙ ap form_of (c.parts.ensures ∙ ap parts_of c.target.ensures)) in
    written_is_read_back i form c.in_ok-file_of.field-0.items has formed c.in_ok-file_of.ensures.exact

pub returns-clause-facts : goal.returns-clause-facts
returns-clause-facts c =
    let i = c.args.interface.now in
    let form = c.in_ok-form.form in
    let has = has_stub i form _ c.symbols.ensures.interface c.in_ok-form.ensures.machine c.symbols.ensures.value c.in_ok-check_sizes.ensures.fit c.in_ok-check_limits.ensures.within in
    let formed : form_of (parts_of i.target) ≡ Ok form = sym (c.in_ok-form.ensures.exact ∙ ap form_of (c.parts.ensures ∙ ap parts_of c.target.ensures)) in
    written_has_the_facts i form c.in_ok-file_of.field-0.items has formed c.in_ok-file_of.ensures.exact
