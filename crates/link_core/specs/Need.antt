-- What a reference needs, by what its relocation type asks for and by what its symbol is (x86-64 psABI,
-- "Relocation"; ELF for the Arm 64-bit Architecture, "Relocation").
use Rattle.std.specs.Prelude.{Bool, true, not, if◌then◌else◌, Result, Ok, Err}
use Rattle.ifs_interface.specs.declared.fact.Fact.{Fact}
use Rattle.ifs_interface.specs.declared.fact.Fact.TheVariants as facts
use Rattle.link_machine.specs.declared.class.RefClass.{RefClass}
use Rattle.link_machine.specs.declared.class.RefClass.TheVariants as classes
use Rattle.link_core.specs.declared.need.Need.{Need}
use Rattle.link_core.specs.declared.need.Need.TheVariants as needs
use Rattle.link_core.specs.declared.need.RefState.{RefState}
use Rattle.link_core.specs.declared.need.RefState.TheVariants.{Own, Abs, Zero, Imp}
use Rattle.link_core.specs.declared.need.Unmet.{Unmet}
use Rattle.link_core.specs.declared.need.Unmet.TheVariants.{TextRelocation, NotPic, CopyRelocation, CanonicalPlt}
use Rattle.link_core.specs.declared.options.OutKind.{OutKind}
use Rattle.link_core.specs.declared.options.OutKind.TheVariants.{Exec, Pie, Shared}
use Rattle.link_core.specs.declared.plan.Slot.{Slot}
use Rattle.link_core.specs.declared.plan.Slot.TheVariants as slots

-- what the need of a reference depends on, beside its class and the state of its symbol: the kind of the made
-- file, whether the patched section is writable, and the class of the symbol
pub record Setting : Type 0 where
  pub kind : OutKind
  pub writable : Bool
  pub class : Fact

abbrev pub Answered : Type 0
Answered = Result Need Unmet

-- ---- words of the table

abbrev pub value : Answered
value = Ok needs.Value

abbrev pub refused : Unmet → Answered
refused cause = Err cause

abbrev pub slot : Slot → Answered
slot s = Ok (needs.Slot s)

-- a program can't hold what a library has: neither a copy of its data nor an address for its function
abbrev pub copied_as : Fact → Answered
copied_as facts.NoType = Err CopyRelocation
copied_as facts.Func = Err CanonicalPlt
copied_as facts.Object = Err CopyRelocation
copied_as facts.Tls = Err CopyRelocation

abbrev pub copied : Setting → Answered
copied setting = copied_as setting.class

-- one answer for each kind
abbrev pub by_kind : OutKind → Answered → Answered → Answered → Answered
by_kind Exec exec pie shared = exec
by_kind Pie exec pie shared = pie
by_kind Shared exec pie shared = shared

-- a dynamic relocation where the section may be written, else something in its place
abbrev pub if_writable : Setting → Need → Answered → Answered
if_writable setting need other = if setting.writable then Ok need else other

-- the load address is added where the section may be written
abbrev pub relative : Setting → Answered
relative setting = if_writable setting needs.Relative (refused TextRelocation)

-- ---- the table: what a class asks for, of a symbol of each state

abbrev pub of_abs64 : RefState → Setting → Answered
of_abs64 Own s = by_kind s.kind value (relative s) (relative s)
of_abs64 Abs s = value
of_abs64 Zero s = value
of_abs64 Imp s = if_writable s needs.Symbolic (by_kind s.kind (copied s) (refused TextRelocation) (refused TextRelocation))

abbrev pub of_abs32 : RefState → Setting → Answered
of_abs32 Own s = by_kind s.kind value (refused NotPic) (refused NotPic)
of_abs32 Abs s = value
of_abs32 Zero s = value
of_abs32 Imp s = by_kind s.kind (copied s) (refused NotPic) (refused NotPic)

abbrev pub of_pc : RefState → Setting → Answered
of_pc Own s = value
of_pc Abs s = by_kind s.kind value (refused NotPic) (refused NotPic)
of_pc Zero s = value
of_pc Imp s = by_kind s.kind (copied s) (copied s) (refused NotPic)

abbrev pub of_call : RefState → Setting → Answered
of_call Own s = value
of_call Abs s = value
of_call Zero s = value
of_call Imp s = Ok needs.Plt

abbrev pub of_le : RefState → Setting → Answered
of_le Own s = by_kind s.kind value value (refused NotPic)
of_le Abs s = value
of_le Zero s = value
of_le Imp s = by_kind s.kind (refused CopyRelocation) (refused CopyRelocation) (refused NotPic)

abbrev pub of_dtp : RefState → Setting → Answered
of_dtp Own s = value
of_dtp Abs s = value
of_dtp Zero s = value
of_dtp Imp s = refused NotPic

-- the other classes ask for nothing, or for a slot or a pair of slots, whatever the symbol is
unfoldable pub need_of : RefClass → RefState → Setting → Answered
need_of classes.Nothing state s = value
need_of classes.Abs64 state s = of_abs64 state s
need_of classes.Abs32 state s = of_abs32 state s
need_of classes.Pc state s = of_pc state s
need_of classes.Call state s = of_call state s
need_of classes.Got state s = slot slots.Got
need_of classes.Le state s = of_le state s
need_of classes.Ie state s = slot slots.Tp
need_of classes.Gd state s = slot slots.TlsPair
need_of classes.Ld state s = slot slots.Module
need_of classes.Dtp state s = of_dtp state s
need_of classes.Desc state s = slot slots.Desc

-- ---- thread-local symbols

pub data Wanted : Type 0 where
  Threaded : Wanted
  Plain : Wanted
  Any : Wanted

-- what kind of symbol a class is for
abbrev pub wanted_by : RefClass → Wanted
wanted_by classes.Nothing = Any
wanted_by classes.Abs64 = Plain
wanted_by classes.Abs32 = Plain
wanted_by classes.Pc = Plain
wanted_by classes.Call = Plain
wanted_by classes.Got = Plain
wanted_by classes.Le = Threaded
wanted_by classes.Ie = Threaded
wanted_by classes.Gd = Threaded
wanted_by classes.Ld = Any
wanted_by classes.Dtp = Threaded
wanted_by classes.Desc = Threaded

abbrev pub is_as_wanted : Wanted → Bool → Bool
is_as_wanted Threaded threaded = threaded
is_as_wanted Plain threaded = not threaded
is_as_wanted Any threaded = true

-- a name that stands for 0 fits every class
unfoldable pub fits_class : RefClass → RefState → Bool → Bool
fits_class class Own threaded = is_as_wanted (wanted_by class) threaded
fits_class class Abs threaded = is_as_wanted (wanted_by class) threaded
fits_class class Zero threaded = true
fits_class class Imp threaded = is_as_wanted (wanted_by class) threaded
