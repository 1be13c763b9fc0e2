-- The reading of a text gives just its documents or its fault.
use Rattle.std.proofs.Common.{◌≡◌, ℕ, ◌⊎◌, inl, inr, List, Option, Some, None, Result, Ok, Err, refl, ap, sym, subst, ◌∙◌}
use Rattle.yaml_tokens.specs.Faults.{fault_of}
use Rattle.yaml_tokens.specs.Tokens.{tokens_of}
use Rattle.yaml_tokens.specs.declared.kind.Fault.{Fault}
use Rattle.yaml_nodes.specs.declared.document.Document.{Document}
use Rattle.yaml_nodes.specs.declared.cause.YamlCause.{YamlCause}
use Rattle.yaml_nodes.specs.declared.cause.YamlCause.TheVariants.{At, Memory}
use Rattle.yaml_nodes.specs.Documents.{parts, documents_of}
use Rattle.yaml_nodes.specs.Laws.{Are}
use Rattle.yaml_nodes.proofs.DocumentsAgree.{documents_are, documents_complete, shape_complete}
use Rattle.yaml_profile.specs.Yaml.{Yaml, YamlFault, read_by, read_of}
use Rattle.yaml_profile.specs.Laws.{DocumentsAreUnique, FaultIsUnique, ReadOrFaulty, NeverBoth, DocumentsAreRead, FaultIsRead}

abbrev Meant : Type 0
Meant = Result (List Document) YamlCause

abbrev fault_or : Fault → Meant → Fault
fault_or f (Ok ds) = f
fault_or f (Err (At at kind)) = record { at = at; kind = kind }
fault_or f (Err Memory) = f

abbrev faulty : Fault → Meant
faulty f = Err (At f.at f.kind)

same_fault : (f g : Fault) → faulty f ≡ faulty g → f ≡ g
same_fault f g h = ap (fault_or f) h

abbrev ok_or : List Document → Meant → List Document
ok_or ds (Ok es) = es
ok_or ds (Err cause) = ds

same_documents : (x y : List Document) (r : Meant) → r ≡ Ok x → r ≡ Ok y → x ≡ y
same_documents x y r h g = ap (ok_or x) (sym h ∙ g)

-- what the text is gives what is read
documents_read : (text : List ℕ) (ds : List Document) → Yaml text ds → read_of text ≡ Ok ds
documents_read text ds h = ap (λ o. read_by o (documents_of (parts (tokens_of text)))) h.0 ∙ documents_complete (parts (tokens_of text)) ds h.1

fault_read : (text : List ℕ) (f : Fault) → YamlFault text f → read_of text ≡ faulty f
fault_read text f (inl h) = ap (λ o. read_by o (documents_of (parts (tokens_of text)))) h
fault_read text f (inr h) =
    ap (λ o. read_by o (documents_of (parts (tokens_of text)))) h.0 ∙ shape_complete (parts (tokens_of text)) f.at h.2 ∙ ap (λ k. Err (At f.at k)) (sym h.1)

-- and the other way
abbrev Is : List ℕ → Meant → Type 0
Is text (Ok ds) = Yaml text ds
Is text (Err (At at kind)) = YamlFault text (record { at = at; kind = kind })
Is text (Err Memory) = ⊥

parts_are : (text : List ℕ) → fault_of text ≡ None → (r : Meant) → Are (parts (tokens_of text)) r → Is text r
parts_are text e (Ok ds) h = (e, h)
parts_are text e (Err cause) h =
    let P : YamlCause → Type 0 = λ c. Is text (Err c) in
    subst P (sym h.1) (inr (e, refl, h.2))

fault_is : (text : List ℕ) (o : Option Fault) → fault_of text ≡ o → Is text (read_by o (documents_of (parts (tokens_of text))))
fault_is text None e = parts_are text e (documents_of (parts (tokens_of text))) (documents_are (parts (tokens_of text)))
fault_is text (Some f) e = inl e

text_is : (text : List ℕ) → Is text (read_of text)
text_is text = fault_is text (fault_of text) refl

pub documents_are_read : DocumentsAreRead
documents_are_read text ds = (λ e. subst (Is text) e (text_is text), documents_read text ds)

pub fault_is_read : FaultIsRead
fault_is_read text f = (λ e. subst (Is text) e (text_is text), fault_read text f)

pub documents_unique : DocumentsAreUnique
documents_unique text x y h g = same_documents x y (read_of text) (documents_read text x h) (documents_read text y g)

pub fault_unique : FaultIsUnique
fault_unique text f g h k = same_fault f g (sym (fault_read text f h) ∙ fault_read text g k)

either_by : (text : List ℕ) (r : Meant) → Is text r → ((documents : List Document) × Yaml text documents) ⊎ ((fault : Fault) × YamlFault text fault)
either_by text (Ok ds) h = inl (ds, h)
either_by text (Err (At at kind)) h = inr (record { at = at; kind = kind }, h)
either_by text (Err Memory) h = absurd h

pub read_or_faulty : ReadOrFaulty
read_or_faulty text = either_by text (read_of text) (text_is text)

both : (ds : List Document) (f : Fault) (r : Meant) → r ≡ Ok ds → r ≡ faulty f → ⊥
both ds f r h g = let e : Ok ds ≡ faulty f = sym h ∙ g in cc

pub never_both : NeverBoth
never_both text ds f h g = both ds f (read_of text) (documents_read text ds h) (fault_read text f g)
