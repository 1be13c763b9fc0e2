-- Texts of entries in flow, and their tokens.
use Rattle.std.proofs.Common.{◌≡◌, ℕ, true, false, List, [], ◌∷◌, ◌++◌, refl, ap, sym, subst, ◌∙◌, append_assoc}
use Rattle.yaml_tokens.specs.Scalars.{plain_size}
use Rattle.yaml_tokens.specs.declared.token.Token.{Token}
use Rattle.yaml_tokens.specs.declared.token.Token.TheVariants as token
use Rattle.yaml_profile.specs.Printed.{printed_scalar}
use Rattle.yaml_profile.proofs.OneToken.{loud, loud_both, printed_is_on_one_line}
use Rattle.ifs_text.proofs.Words.{is_word, word_calm}
use Rattle.ifs_text.proofs.RestOfLine.{Reads, reads_blank, reads_scalar, reads_word, reads_key, reads_comma, comma_stops}

-- the text of a value in flow
pub record IsValue (text value : List ℕ) : Type 0 where
  pub reads : (z : List ℕ) (us : List Token) → plain_size true z ≡ 0 → Reads true z us → Reads true (text ++ z) (token.Scalar value ∷ us)
  pub calm : loud text ≡ false

pub word_value : (s : List ℕ) → is_word s ≡ true → IsValue s s
word_value s h = record { reads = λ z us e r. reads_word true s z us h e r; calm = word_calm s h }

pub scalar_value : (s : List ℕ) → IsValue (printed_scalar s) s
scalar_value s = record { reads = λ z us e r. reads_scalar true s z us e r; calm = printed_is_on_one_line s }

-- a text of entries in flow, each behind a comma
pub record Chunk (text : List ℕ) (ts : List Token) : Type 0 where
  pub reads : (z : List ℕ) (us : List Token) → plain_size true z ≡ 0 → Reads true z us → Reads true (text ++ z) (ts ++ us)
  pub stops : (z : List ℕ) → plain_size true z ≡ 0 → plain_size true (text ++ z) ≡ 0
  pub calm : loud text ≡ false

pub chunk_none : Chunk [] []
chunk_none = record { reads = λ z us e r. r; stops = λ z e. e; calm = refl }

pub chunk_both : (a b : List ℕ) (ts us : List Token) → Chunk a ts → Chunk b us → Chunk (a ++ b) (ts ++ us)
chunk_both a b ts us p q = record {
  reads = λ z vs e r.
      subst (λ w. Reads true w ((ts ++ us) ++ vs)) (sym (append_assoc a b z))
      (subst (λ w. Reads true (a ++ (b ++ z)) w) (sym (append_assoc ts us vs)) (p.reads (b ++ z) (us ++ vs) (q.stops z e) (q.reads z vs e r)));
  stops = λ z e. ap (plain_size true) (append_assoc a b z) ∙ p.stops (b ++ z) (q.stops z e);
  calm = loud_both a b p.calm q.calm;
}

abbrev pub entry_tokens : List ℕ → List ℕ → List Token
entry_tokens key value = token.Comma ∷ token.Scalar key ∷ token.Colon ∷ token.Scalar value ∷ []

pub chunk_entry : (start key text value : List ℕ) → ((z : List ℕ) → start ++ z ≡ 44 ∷ 32 ∷ (key ++ 58 ∷ 32 ∷ z)) → loud start ≡ false → is_word key ≡ true → IsValue text value → Chunk (start ++ text) (entry_tokens key value)
chunk_entry start key text value is calm word v = record {
  reads = λ z us e r.
      let inner = text ++ z in
      let behind_comma = key ++ 58 ∷ 32 ∷ inner in
      let key_reads = reads_key true key 0 inner (token.Scalar value ∷ us) word (v.reads z us e r) in
      subst (λ w. Reads true w (entry_tokens key value ++ us)) (sym (append_assoc start text z ∙ is inner))
      (reads_comma (32 ∷ behind_comma) (token.Scalar key ∷ token.Colon ∷ token.Scalar value ∷ us)
      (reads_blank true behind_comma (token.Scalar key ∷ token.Colon ∷ token.Scalar value ∷ us) key_reads));
  stops = λ z e. ap (plain_size true) (append_assoc start text z ∙ is (text ++ z)) ∙ comma_stops (32 ∷ (key ++ 58 ∷ 32 ∷ (text ++ z)));
  calm = loud_both start text calm v.calm;
}
