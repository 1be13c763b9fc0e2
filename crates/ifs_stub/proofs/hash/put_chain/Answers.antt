use Rattle.std.proofs.Common.{◌≡◌, ℕ, ◌+◌, ◌<◌, List, ◌++◌, sym, ap, ◌∙◌, append_assoc}
use Rattle.std.specs.List.{flat_map}
use Rattle.ifs_bytes.specs.Places.{places}
use Rattle.ifs_bytes.proofs.Range.{places_more}
use Rattle.ifs_stub.specs.StubFile.{next_row, word_bytes}
use Rattle.ifs_stub.proofs.hash.put_chain.Goals as goal

-- one turn of a loop that appends what f gives at place i
turn : (f : ℕ → List ℕ) (i n : ℕ) (old new all : List ℕ) → i < n → new ≡ old ++ f i → old ++ flat_map f (places i n) ≡ all → new ++ flat_map f (places (i + 1) n) ≡ all
turn f i n old new all h appended so_far =
    let rest = flat_map f (places (i + 1) n) in
    ap (λ (xs : List ℕ). xs ++ rest) appended ∙ append_assoc old (f i) rest
    ∙ (ap (λ (xs : List ℕ). old ++ xs) (sym (ap (flat_map f) (places_more i n h))) ∙ so_far)

pub loop-row-preserved : goal.loop-row-preserved
loop-row-preserved c =
    let chain = λ (row : ℕ). word_bytes c.args.order (next_row c.args.count row) in
    let word = ap (λ (w : ℕ). c.loop-row.out.items ++ word_bytes c.args.order w) c.next_row.ensures in
    turn chain c.loop-row.row c.args.count c.loop-row.out.items c.put_u32.new.out.items _ c.loop-row-test.true (c.in_ok-put_u32.ensures ∙ word) c.loop-row.invariant
