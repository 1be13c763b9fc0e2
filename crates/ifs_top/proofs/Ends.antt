-- What is true however a reply was delivered.
use Rattle.std.proofs.Common.{◌≡◌, ◌≢◌, ℕ, ◌+◌, ◌<◌, ◌≤◌, ◌⊎◌, List, [], ◌∷◌, length, Option, refl, sym, subst, inl, inr, arith}
use Rattle.std.specs.Prelude.{codes, IfSome, Some, None}
use Rattle.std.specs.Io.KnownBytes.{append_known}
use Rattle.ifs_outside.specs.Count.{raised, Rose}
use Rattle.ifs_top.specs.declared.reply.Output.{Output}
use Rattle.ifs_top.specs.declared.reply.Reply.{Reply}
use Rattle.ifs_top.specs.Outside.{Places, IfTold, Keeps, StopsWithin, PlaceRose, SameFaults, Faulted, Writes, after, written}
use Rattle.ifs_top.specs.Reply.{fault_line, Names, HasOutputs}
use Rattle.ifs_top.specs.Steps.{Says, Delivers, memory_line}

pub keeps_stops : (outputs : List Output) (p q : Places) → Keeps p q → StopsWithin outputs p q
keeps_stops [] p q h = h
keeps_stops (output ∷ outputs) p q h = inl h

written_stops : (outputs : List Output) (p : Places) → StopsWithin outputs p (written outputs p)
written_stops [] p = (refl, refl)
written_stops (output ∷ outputs) p = inr (inr (written_stops outputs (after output p)))

-- what holds of what is told
pub told_here : {X P : Type 0} (o : Option X) → P → IfSome o (λ _. P)
told_here None h = tt
told_here (Some x) h = h

pub told_more : {X P Q : Type 0} (o : Option X) → (P → Q) → IfSome o (λ _. P) → IfSome o (λ _. Q)
told_more None f h = tt
told_more (Some x) f h = f h

same_faults : (p : Places) → SameFaults p p
same_faults p = record { out = refl; reads = refl; writes = refl; misses = refl }

-- ---- outputs that were all written

writes_told : (outputs : List Output) (p q : Places) → Writes outputs p q → IfTold p (q ≡ written outputs p)
writes_told [] p q h = told_here p.files h
writes_told (output ∷ outputs) p q h = h.0

writes_faults : (outputs : List Output) (p q : Places) → Writes outputs p q → SameFaults p q
writes_faults [] p q h = subst (λ (x : Places). SameFaults p x) (sym h) (same_faults p)
writes_faults (output ∷ outputs) p q h = h.1

writes_none : (outputs : List Output) (p q : Places) → Writes outputs p q → length outputs ≡ 0 → q ≡ p
writes_none [] p q h e = h
writes_none (output ∷ outputs) p q h e = absurd (omega (arith, e))

writes_stops : (outputs : List Output) (p q : Places) → Writes outputs p q → IfTold p (StopsWithin outputs p q)
writes_stops outputs p q h = told_more p.files (λ is. subst (λ (x : Places). StopsWithin outputs p x) (sym is) (written_stops outputs p)) (writes_told outputs p q h)

-- all of the reply was given
pub record Given (reply : Reply) (r : ℕ) (p q : Places) (err later : Option (List ℕ)) : Type 0 where
  pub status : r ≡ reply.status
  pub places : IfTold p (q ≡ written reply.outputs p)
  pub line : later ≡ append_known err reply.line

-- the counts of writing, added up
abbrev pub total : Places → ℕ → ℕ
total p faults = faults + (p.out_faults + p.counts.write_faults)

-- writing failed, and was counted
abbrev pub AnyRose : Places → Places → ℕ → ℕ → Type 0
AnyRose p q f g = Rose f g ⊎ PlaceRose p q

pub record Ends (reply : Reply) (r : ℕ) (p q : Places) (err later : Option (List ℕ)) (f g : ℕ) : Type 0 where
  pub stops : IfTold p (StopsWithin reply.outputs p q)
  pub none : length reply.outputs ≡ 0 → q ≡ p
  pub reads : q.counts.read_faults ≡ p.counts.read_faults
  pub misses : q.counts.misses ≡ p.counts.misses
  pub most : r ≤ 5
  pub least : reply.status ≤ r
  pub four : r ≡ 4 → AnyRose p q f g
  pub grew : total p f < total q g → 4 ≤ r
  pub low : r < 4 → Given reply r p q err later
  pub quiet : g < raised f → q.out_faults < raised p.out_faults → q.counts.write_faults < raised p.counts.write_faults → r ≢ 5 → Given reply r p q err later
  pub line : r ≡ 4 → Rose f g ⊎ ((path : List ℕ) × Names reply.outputs path × (later ≡ append_known err (fault_line path (codes "write failed"))) × PlaceRose p q)

-- all outputs were written
whole : (reply : Reply) (r : ℕ) (p q : Places) (err later : Option (List ℕ)) (f g : ℕ) → reply.status ≤ 3 → Writes reply.outputs p q → Says reply.line reply.status r err later f g → Ends reply r p q err later f g
whole reply r p q err later f g three is says =
    let same = writes_faults reply.outputs p q is in
    let stops = writes_stops reply.outputs p q is in
    let told = writes_told reply.outputs p q is in
    elim says [
      | inl said ↦ record {
        stops = stops;
        none = writes_none reply.outputs p q is;
        reads = same.reads;
        misses = same.misses;
        most = omega (arith, said.0);
        least = omega (arith, said.0);
        four = λ e. absurd (omega (arith, said.0));
        grew = λ h. absurd (omega (arith, said.2, same.out, same.writes, h));
        low = λ _. record { status = said.0; places = told; line = said.1 };
        quiet = λ _ _ _ _. record { status = said.0; places = told; line = said.1 };
        line = λ e. absurd (omega (arith, said.0));
      }
      | inr other ↦ elim other [
        | inl failed ↦ record {
          stops = stops;
          none = writes_none reply.outputs p q is;
          reads = same.reads;
          misses = same.misses;
          most = omega (arith, failed.0);
          least = omega (arith, failed.0);
          four = λ _. inl failed.1;
          grew = λ _. omega (arith, failed.0);
          low = λ h. absurd (omega (arith, failed.0));
          quiet = λ h _ _ _. absurd (omega (arith, h, failed.1));
          line = λ _. inl failed.1;
        }
        | inr spent ↦ record {
          stops = stops;
          none = writes_none reply.outputs p q is;
          reads = same.reads;
          misses = same.misses;
          most = omega (arith, spent.0);
          least = omega (arith, spent.0);
          four = λ e. absurd (omega (arith, spent.0));
          grew = λ _. omega (arith, spent.0);
          low = λ h. absurd (omega (arith, spent.0));
          quiet = λ _ _ _ h. absurd (h spent.0);
          line = λ e. absurd (omega (arith, spent.0));
        }
      ]
    ]

some_output : (outputs : List Output) (path : List ℕ) → Names outputs path → HasOutputs outputs
some_output [] path named = absurd cc
some_output (output ∷ outputs) path named = omega arith

-- an output failed
spoilt : (reply : Reply) (r : ℕ) (p q : Places) (err later : Option (List ℕ)) (f g : ℕ) (path : List ℕ) → reply.status ≤ 3 → Names reply.outputs path → IfTold p (StopsWithin reply.outputs p q) → Faulted p q → Says (fault_line path (codes "write failed")) 4 r err later f g → Ends reply r p q err later f g
spoilt reply r p q err later f g path three named stops faulted says =
    let some = some_output reply.outputs path named in
    let four_or_five : (4 ≤ r) × (r ≤ 5) = elim says [ inl said ↦ (omega (arith, said.0), omega (arith, said.0)) | inr other ↦ elim other [ inl failed ↦ (omega (arith, failed.0), omega (arith, failed.0)) | inr spent ↦ (omega (arith, spent.0), omega (arith, spent.0)) ] ] in
    record {
      stops = stops;
      none = λ e. absurd (omega (arith, some, e));
      reads = faulted.reads;
      misses = faulted.misses;
      most = four_or_five.1;
      least = omega (arith, four_or_five.0);
      four = λ _. inr faulted.rose;
      grew = λ _. four_or_five.0;
      low = λ h. absurd (omega (arith, h, four_or_five.0));
      quiet = λ _ out files _. absurd (elim faulted.rose [ inl rose ↦ omega (arith, out, rose) | inr rose ↦ omega (arith, files, rose) ]);
      line = λ e. elim says [ inl said ↦ inr (path, named, said.1, faulted.rose) | inr other ↦ elim other [ inl failed ↦ inl failed.1 | inr spent ↦ absurd (omega (arith, e, spent.0)) ] ];
    }

-- memory ran out
without_memory : (reply : Reply) (r : ℕ) (p q : Places) (err later : Option (List ℕ)) (f g : ℕ) → reply.status ≤ 3 → 0 < length reply.outputs → IfTold p (StopsWithin reply.outputs p q) → Faulted p q ⊎ SameFaults p q → Says memory_line 5 r err later f g → Ends reply r p q err later f g
without_memory reply r p q err later f g three some stops counted says =
    let five : r ≡ 5 = elim says [ inl said ↦ said.0 | inr other ↦ elim other [ inl failed ↦ omega (arith, failed.0) | inr spent ↦ spent.0 ] ] in
    record {
      stops = stops;
      none = λ e. absurd (omega (arith, some, e));
      reads = elim counted [ inl faulted ↦ faulted.reads | inr same ↦ same.reads ];
      misses = elim counted [ inl faulted ↦ faulted.misses | inr same ↦ same.misses ];
      most = omega (arith, five);
      least = omega (arith, five);
      four = λ e. absurd (omega (arith, e, five));
      grew = λ _. omega (arith, five);
      low = λ h. absurd (omega (arith, h, five));
      quiet = λ _ _ _ h. absurd (h five);
      line = λ e. absurd (omega (arith, e, five));
    }

pub ends : (reply : Reply) (r : ℕ) (p q : Places) (err later : Option (List ℕ)) (f g : ℕ) → reply.status ≤ 3 → Delivers reply r p q err later f g → Ends reply r p q err later f g
ends reply r p q err later f g three delivers =
    elim delivers [
      | inl all ↦ whole reply r p q err later f g three all.0 all.1
      | inr other ↦ elim other [
        | inl one ↦ spoilt reply r p q err later f g one.0 three one.1 one.2 one.3 one.4
        | inr none ↦ without_memory reply r p q err later f g three none.0 none.1 none.2 none.3
      ]
    ]
