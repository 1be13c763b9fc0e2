-- Turns of the loop over the documents of a text.
use Rattle.std.proofs.Common.{◌≡◌, ◌⊎◌, inl, inr, List, [], ◌∷◌, ◌++◌, Result, Ok, Err, refl, ap, sym, ◌∙◌, append_assoc}
use Rattle.yaml_tokens.specs.declared.token.Token.{Token}
use Rattle.yaml_tokens.specs.declared.token.Token.TheVariants as token
use Rattle.yaml_nodes.specs.declared.document.Document.{Document}
use Rattle.yaml_nodes.specs.declared.cause.YamlCause.{YamlCause}
use Rattle.yaml_nodes.specs.declared.cause.YamlCause.TheVariants.{Memory}
use Rattle.yaml_tokens.specs.Parts.{body}
use Rattle.yaml_nodes.specs.Documents.{parts, document_of, behind_documents, and_documents, documents_of, added_by, added}

abbrev pub Meant : Type 0
Meant = Result (List Document) YamlCause

abbrev pub failed : YamlCause → Meant
failed cause = Err cause

abbrev joined : Meant → Meant → Meant
joined (Ok ds) rest = behind_documents ds rest
joined (Err cause) rest = Err cause

behind_none : (r : Meant) → r ≡ behind_documents [] r
behind_none (Ok ds) = refl
behind_none (Err cause) = refl

joined_one : (d : Result Document YamlCause) (r : Meant) → and_documents d r ≡ joined (added_by d) r
joined_one (Ok d) r = refl
joined_one (Err cause) r = refl

parts_step : (t : Token) (ts : List Token) → documents_of (parts (t ∷ ts)) ≡ joined (added t ts) (documents_of (parts ts))
parts_step (token.Begin at tag) ts = joined_one (document_of at tag (body ts)) (documents_of (parts ts))
parts_step (token.Stray at) ts = refl
parts_step t ts = behind_none (documents_of (parts ts))

behind_joined : (old : List Document) (new : Meant) (r : Meant) → behind_documents old (joined new r) ≡ joined (behind_documents old new) r
behind_joined old (Ok ds) (Ok es) = ap Ok (sym (append_assoc old ds es))
behind_joined old (Ok ds) (Err cause) = refl
behind_joined old (Err cause) r = refl

-- what is left behind a token
step : (old : List Document) (t : Token) (z after : List Token) (all : Meant) → t ∷ after ≡ z
    → all ≡ behind_documents old (documents_of (parts z)) → all ≡ joined (behind_documents old (added t after)) (documents_of (parts after))
step old t z after all whole so_far =
    so_far
    ∙ ap (λ w. behind_documents old (documents_of (parts w))) (sym whole)
    ∙ ap (behind_documents old) (parts_step t after)
    ∙ behind_joined old (added t after) (documents_of (parts after))

pub documents_turn : (old new : List Document) (t : Token) (z after : List Token) (all : Meant) → t ∷ after ≡ z
    → Ok new ≡ behind_documents old (added t after) → all ≡ behind_documents old (documents_of (parts z)) → all ≡ behind_documents new (documents_of (parts after))
documents_turn old new t z after all whole adds so_far =
    step old t z after all whole so_far ∙ ap (λ w. joined w (documents_of (parts after))) (sym adds)

err_all : (old : List Document) (cause : YamlCause) (meant : Meant) → Err cause ≡ meant → Err cause ≡ behind_documents old meant
err_all old cause meant e = ap (behind_documents old) e

pub documents_stop : (old : List Document) (cause : YamlCause) (t : Token) (z after : List Token) (all : Meant) → t ∷ after ≡ z
    → (cause ≡ Memory) ⊎ (Err cause ≡ added t after) → all ≡ behind_documents old (documents_of (parts z)) → (failed cause ≡ Err Memory) ⊎ (failed cause ≡ all)
documents_stop old cause t z after all whole (inl memory) so_far = inl (ap Err memory)
documents_stop old cause t z after all whole (inr fault) so_far =
    inr (sym (step old t z after all whole so_far ∙ ap (λ w. joined w (documents_of (parts after))) (sym (err_all old cause (added t after) fault))))

-- the last document
pub documents_over : (old new : List Document) (d : Document) (z : List Token) (all : Meant) → documents_of (parts z) ≡ Ok (d ∷ []) → new ≡ old ++ d ∷ []
    → all ≡ behind_documents old (documents_of (parts z)) → Ok new ≡ all
documents_over old new d z all ends pushed so_far = ap Ok pushed ∙ sym (so_far ∙ ap (behind_documents old) ends)
