-- A command that was read has an input, and its adjustment is one that interfaces may have: each value was looked at when it
-- was read, and a triple stands alone.
use Rattle.std.proofs.Common.{refl, subst, ◌≡◌, ◌<◌, ◌≤◌, ℕ, length, arith, Bool, true, false, not, ◌&&◌, ◌||◌, List, [], ◌∷◌, Option, Some, None, Result, Ok, Err, IfOk, inl, inr}
use Rattle.std.specs.Prelude.{codes, nat_eq, nat_le, is_some, if◌then◌else◌}
use Rattle.std.specs.List.{list_all, starts_with}
use Rattle.std.specs.Str.{bytes_eq}
use Rattle.std.proofs.lemmas.Bool.{leb-true}
use Rattle.std.proofs.lemmas.List.Folds.{list_all-append}
use Rattle.ifs_bytes.specs.Outcome.{◌>>=◌, check, UnlessMemory}
use Rattle.ifs_interface.specs.Interface.{is_proper_name, is_proper_soname, is_proper_target}
use Rattle.ifs_interface.specs.Triple.{parts_of_triple}
use Rattle.ifs_words.specs.declared.cause.WordCause.{WordCause}
use Rattle.ifs_words.specs.declared.cause.WordCause.TheVariants as causes
use Rattle.ifs_words.specs.declared.command.Command.{Command}
use Rattle.ifs_words.specs.declared.command.StubWords.{StubWords}
use Rattle.ifs_words.specs.declared.given.Given.{Given}
use Rattle.ifs_words.specs.declared.link.LinkWords.{LinkWords}
use Rattle.ifs_words.specs.declared.given.Next.{Next}
use Rattle.ifs_words.specs.declared.given.Next.TheVariants.{Anything, Value, Path}
use Rattle.ifs_words.specs.declared.read.Read.{Read}
use Rattle.ifs_words.specs.declared.settings.Form.{Form}
use Rattle.ifs_words.specs.declared.settings.Form.TheVariants as forms
use Rattle.ifs_words.specs.declared.settings.Setting.{Setting}
use Rattle.ifs_words.specs.declared.settings.Setting.TheVariants as settings
use Rattle.ifs_words.specs.Settings.{row_of, name_of, link_settings, setting_named, stub_settings}
use Rattle.ifs_words.specs.Values.{is_good}
use Rattle.ifs_words.specs.Reading.{awaiting, ended, given, has, is_of, known, known_in, name_in, nothing, read_from, valued, value_in, value_of, with_any, with_given, with_option, with_path, with_word}
use Rattle.ifs_words.specs.Link.{link_of, link_words}
use Rattle.ifs_words.specs.Stub.{adjustment, given_target, no_conflict, stub_of, stub_words}
use Rattle.ifs_words.specs.Together.{at_most, needed, paths_fit, values_of}
use Rattle.ifs_words.specs.Usable.{CanLink, CanRun, CanStub, IsUsable}
use Rattle.ifs_words.specs.Words.{as_stub, words_of}

-- ---- what holds of a value that a reading gives

checked : {A E : Type 0} (b : Bool) (cause : E) (next : Result A E) (P : A → Type 0) → (b ≡ true → IfOk next P) → IfOk (check b cause >>= (λ _. next)) P
checked true cause next P h = h refl
checked false cause next P h = tt

checked_last : {E : Type 0} (b : Bool) (cause : E) (P : Unit {0} → Type 0) → P tt → IfOk (check b cause) P
checked_last true cause P p = p
checked_last false cause P p = tt

bound : {A B E : Type 0} (r : Result A E) (f : A → Result B E) (P : A → Type 0) (Q : B → Type 0) → IfOk r P → ((x : A) → P x → IfOk (f x) Q) → IfOk (r >>= f) Q
bound (Ok x) f P Q p h = h x p
bound (Err e) f P Q p h = tt

either : {A E : Type 0} (b : Bool) (x y : Result A E) (P : A → Type 0) → IfOk x P → IfOk y P → IfOk (if b then x else y) P
either true x y P p q = p
either false x y P p q = q

-- ---- each value that was read is good

abbrev is_good_given : Given → Bool
is_good_given g = is_good (row_of g.setting).takes g.value

abbrev AllGood : Read → Type 0
AllGood read = list_all is_good_given read.given ≡ true

with_given_good : (s : Setting) (v : List ℕ) (r : Read) → AllGood r → is_good (row_of s).takes v ≡ true → AllGood (with_given s v r)
with_given_good s v r all good = rw (list_all-append is_good_given r.given (record { setting = s; value = v } ∷ []), all, good)

given_good : (s : Setting) (v : List ℕ) (r : Read) → AllGood r → is_good (row_of s).takes v ≡ true → IfOk (given s v r) AllGood
unfolding given
given_good s v r all good = checked _ _ (Ok (with_given s v r)) AllGood (λ _. with_given_good s v r all good)

valued_good : (s : Setting) (v : List ℕ) (r : Read) → AllGood r → IfOk (valued s v r) AllGood
unfolding valued
valued_good s v r all = checked (is_good (row_of s).takes v) _ (given s v r) AllGood (λ good. given_good s v r all good)

known_good : (s : Setting) (takes : Option Form) (value : Option (List ℕ)) (r : Read) → takes ≡ (row_of s).takes → AllGood r → IfOk (known s takes value r) AllGood
known_good s None None r e all = given_good s [] r all (rw (← e) refl)
known_good s None (Some v) r e all = tt
known_good s (Some f) (Some v) r e all = valued_good s v r all
known_good s (Some f) None r e all = all

known_in_good : (o : Option Setting) (w : List ℕ) (r : Read) → AllGood r → IfOk (known_in o w r) AllGood
known_in_good None w r all = tt
known_in_good (Some s) w r all = known_good s (row_of s).takes (value_in w) r refl all

with_any_good : (table : List Setting) (w : List ℕ) (r : Read) → AllGood r → IfOk (with_any table w r) AllGood
unfolding with_any
with_any_good table w r all =
    either (bytes_eq w (codes "--")) (Ok (awaiting Path r)) (if starts_with nat_eq w (codes "-") then with_option table w r else Ok (with_path w r)) AllGood all
    (either (starts_with nat_eq w (codes "-")) (with_option table w r) (Ok (with_path w r)) AllGood (known_in_good (setting_named table (name_in w)) w r all) all)

with_word_good : (table : List Setting) (next : Next) (w : List ℕ) (r : Read) → AllGood r → IfOk (with_word table next w r) AllGood
with_word_good table Anything w r all = with_any_good table w r all
with_word_good table (Value s) w r all = valued_good s w r all
with_word_good table Path w r all = all

ended_good : (next : Next) (r : Read) → AllGood r → IfOk (ended next r) AllGood
ended_good Anything r all = all
ended_good (Value s) r all = tt
ended_good Path r all = all

read_from_good : (table : List Setting) (ws : List (List ℕ)) (r : Read) → AllGood r → IfOk (read_from table ws r) AllGood
read_from_good table [] r all = ended_good r.next r all
read_from_good table (w ∷ ws) r all =
    bound (with_word table r.next w r) (read_from table ws) AllGood AllGood (with_word_good table r.next w r all) (λ x p. read_from_good table ws x p)

-- ---- what a name says of the form of its values

soname_takes : (a : Setting) → bytes_eq (name_of a) (name_of settings.Soname) ≡ true → (row_of a).takes ≡ Some forms.Text
unfolding row_of
soname_takes settings.Soname e = refl
soname_takes a e = cc

target_takes : (a : Setting) → bytes_eq (name_of a) (name_of settings.Target) ≡ true → (row_of a).takes ≡ Some forms.Triple
unfolding row_of
target_takes settings.Target e = refl
target_takes a e = cc

first_good : (form : Form) (g : Given) (later : Option (List ℕ)) (v : List ℕ) (b : Bool) → (b ≡ true → (row_of g.setting).takes ≡ Some form) → is_good_given g ≡ true
    → (later ≡ Some v → is_good (Some form) v ≡ true) → (if b then Some g.value else later) ≡ Some v → is_good (Some form) v ≡ true
first_good form g later v true takes good behind e =
    let same : g.value ≡ v = cc in
    subst (λ x. is_good (Some form) x ≡ true) same (subst (λ t. is_good t g.value ≡ true) (takes refl) good)
first_good form g later v false takes good behind e = behind e

both_true : (a b : Bool) → (a && b) ≡ true → (a ≡ true) × (b ≡ true)
both_true true b e = (refl, e)
both_true false b e = absurd (cc)

value_good : (s : Setting) (form : Form) → ((a : Setting) → bytes_eq (name_of a) (name_of s) ≡ true → (row_of a).takes ≡ Some form)
    → (gs : List Given) (v : List ℕ) → list_all is_good_given gs ≡ true → value_of s gs ≡ Some v → is_good (Some form) v ≡ true
value_good s form same [] v all e = absurd (cc)
value_good s form same (g ∷ gs) v all e =
    let parts = both_true (is_good_given g) (list_all is_good_given gs) all in
    first_good form g (value_of s gs) v (is_of s g) (same g.setting) parts.0 (λ (f : value_of s gs ≡ Some v). value_good s form same gs v parts.1 f) e

-- ---- a triple stands alone

first_none : (g : Given) (later : Option (List ℕ)) (b more : Bool) → (more ≡ false → later ≡ None) → (b || more) ≡ false → (if b then Some g.value else later) ≡ None
first_none g later true more behind e = absurd (cc)
first_none g later false more behind e = behind e

value_none : (s : Setting) (gs : List Given) → has s gs ≡ false → value_of s gs ≡ None
value_none s [] e = refl
value_none s (g ∷ gs) e = first_none g (value_of s gs) (is_of s g) (has s gs) (value_none s gs) e

absent : (s : Setting) (gs : List Given) (t : List ℕ) (a b : Bool) → has settings.Target gs ≡ a → has s gs ≡ b → not (a && b) ≡ true → value_of settings.Target gs ≡ Some t → value_of s gs ≡ None
absent s gs t true true ha hb e v = absurd (cc)
absent s gs t true false ha hb e v = value_none s gs hb
absent s gs t false b ha hb e v = let none = value_none settings.Target gs ha in absurd (cc)

record Alone (gs : List Given) : Type 0 where
  arch : not (has settings.Target gs && has settings.Arch gs) ≡ true
  width : not (has settings.Target gs && has settings.BitWidth gs) ≡ true
  order : not (has settings.Target gs && has settings.Endianness gs) ≡ true

no_conflict_alone : (gs : List Given) → IfOk (no_conflict gs) (λ _. Alone gs)
unfolding no_conflict
no_conflict_alone gs =
    checked _ _ _ (λ _. Alone gs) (λ a. checked _ _ _ (λ _. Alone gs) (λ w. checked _ _ _ (λ _. Alone gs) (λ o.
    checked_last _ _ (λ _. Alone gs) (record { arch = a; width = w; order = o }))))

-- ---- the adjustment

proper_soname : (gs : List Given) (o : Option (List ℕ)) → list_all is_good_given gs ≡ true → value_of settings.Soname gs ≡ o → is_proper_soname o ≡ true
proper_soname gs None all e = refl
proper_soname gs (Some v) all e = (both_true (is_proper_name v) true (value_good settings.Soname forms.Text soname_takes gs v all e)).0

proper_target : (gs : List Given) (o : Option (List ℕ)) → list_all is_good_given gs ≡ true → Alone gs → value_of settings.Target gs ≡ o → is_proper_target o (given_target gs) ≡ true
unfolding given_target
proper_target gs None all alone e = refl
proper_target gs (Some t) all alone e =
    let good = value_good settings.Target forms.Triple target_takes gs t all e in
    let known = (both_true (is_proper_name t) (is_some (parts_of_triple t)) good).1 in
    let arch = absent settings.Arch gs t _ _ refl refl alone.arch e in
    let width = absent settings.BitWidth gs t _ _ refl refl alone.width e in
    let order = absent settings.Endianness gs t _ _ refl refl alone.order e in
    rw (known, arch, order, width)

usable : (gs : List Given) → list_all is_good_given gs ≡ true → Alone gs → IsUsable (adjustment gs)
unfolding adjustment given_target
usable gs all alone = record {
  soname = proper_soname gs _ all refl;
  target = proper_target gs _ all alone refl;
}

few : (most : ℕ) (xs : List (List ℕ)) (b : Bool) → nat_le (length xs) most ≡ b → IfOk (check b (causes.TooManyInputs (length xs))) (λ _. length xs ≤ most)
few most xs true e = leb-true (length xs) most e
few most xs false e = tt

record Fits (most : ℕ) (paths : List (List ℕ)) : Type 0 where
  some : 0 < length paths
  few : length paths ≤ most

fits : (most : ℕ) (paths : List (List ℕ)) (b : Bool) → nat_le (length paths) most ≡ b → 0 < length paths → IfOk (check b (causes.TooManyInputs (length paths))) (λ _. Fits most paths)
fits most paths true e some = record { some = some; few = leb-true (length paths) most e }
fits most paths false e some = tt

paths_are_fit : (most : ℕ) (paths : List (List ℕ)) → IfOk (paths_fit most paths) (λ _. Fits most paths)
unfolding paths_fit
paths_are_fit most [] = tt
paths_are_fit most (p ∷ ps) = fits most (p ∷ ps) _ refl (omega arith)

stub_usable : (words : List (List ℕ)) → IfOk (stub_of words) CanStub
unfolding stub_of stub_words
stub_usable words =
    bound (read_from stub_settings words nothing) _ AllGood CanStub (read_from_good stub_settings words nothing refl) (λ r all.
    bound (no_conflict r.given) _ (λ _. Alone r.given) CanStub (no_conflict_alone r.given) (λ _ alone.
    bound (paths_fit 4096 r.paths) _ (λ _. Fits 4096 r.paths) CanStub (paths_are_fit 4096 r.paths) (λ _ fit. record { inputs = fit.some; adjust = usable r.given all alone })))

as_stub_usable : (r : Result StubWords WordCause) → IfOk r CanStub → IfOk (as_stub r) CanRun
as_stub_usable (Ok w) p = p
as_stub_usable (Err e) p = tt

commands_are_usable : (words : List (List ℕ)) → IfOk (words_of words) CanRun
commands_are_usable [] = tt
commands_are_usable (c ∷ words) =
    either (bytes_eq c (codes "stub")) (as_stub (stub_of words)) (Err (causes.UnknownCommand c)) CanRun (as_stub_usable (stub_of words) (stub_usable words)) tt

-- every command that words ask for can be run
pub parsed_is_usable : (words : List (List ℕ)) (result : Result Command WordCause) → UnlessMemory causes.Memory result (words_of words) → IfOk result CanRun
parsed_is_usable words result (inl e) = rw e tt
parsed_is_usable words result (inr e) = rw e (commands_are_usable words)

-- ---- a link

any : {A : Type 0} (r : Result A WordCause) → IfOk r (λ _. Unit {0})
any (Ok x) = tt
any (Err e) = tt

link_usable : (words : List (List ℕ)) → IfOk (link_of words) CanLink
unfolding link_of link_words
link_usable words =
    bound (read_from link_settings words nothing) _ (λ _. Unit {0}) CanLink (any _) (λ r _.
    bound (paths_fit 4096 r.paths) _ (λ _. Fits 4096 r.paths) CanLink (paths_are_fit 4096 r.paths) (λ _ fit.
    bound (at_most 256 (values_of settings.Lib r.given)) _ (λ _. length (values_of settings.Lib r.given) ≤ 256) CanLink (few 256 (values_of settings.Lib r.given) _ refl) (λ _ libs.
    bound (needed settings.Output r.given) _ (λ _. Unit {0}) CanLink (any _) (λ _ _. record { some = fit.some; objects = fit.few; libs = libs }))))

-- what words ask of `link` is a job that a linker takes
pub link_is_usable : (words : List (List ℕ)) (result : Result LinkWords WordCause) → UnlessMemory causes.Memory result (link_of words) → IfOk result CanLink
link_is_usable words result (inl e) = rw e tt
link_is_usable words result (inr e) = rw e (link_usable words)
