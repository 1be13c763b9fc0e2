-- Each sentence about a run, from what its steps promise.
use Rattle.std.proofs.Common.{◌≡◌, ◌≢◌, ℕ, ◌<◌, ◌≤◌, List, [], length, Option, Some, None, Result, Ok, Err, refl, sym, ap, subst, ◌∙◌, inl, inr, lit<, arith}
use Rattle.std.specs.Prelude.{codes, IfSome}
use Rattle.std.specs.Io.KnownBytes.{append_known}
use Rattle.ifs_outside.specs.Count.{raised, Rose}
use Rattle.ifs_outside.specs.Files.{FileMap}
use Rattle.ifs_outside.specs.declared.counts.FileCounts.{FileCounts}
use Rattle.ifs_top.specs.declared.reply.Output.{Output}
use Rattle.ifs_top.specs.declared.reply.Reply.{Reply}
use Rattle.ifs_top.specs.declared.refusal.Stop.{Stop}
use Rattle.ifs_top.specs.declared.refusal.Stop.TheVariants as stops
use Rattle.ifs_words.specs.declared.cause.WordCause.{WordCause}
use Rattle.ifs_words.specs.declared.command.Command.{Command}
use Rattle.ifs_words.specs.declared.command.Command.TheVariants.{Stub}
use Rattle.ifs_top.specs.Outcome.{outcome, refused_words}
use Rattle.ifs_top.specs.Outside.{Places, Outside, StopsWithin, PlaceRose, places, written}
use Rattle.ifs_top.specs.Reply.{fault_line, Names}
use Rattle.ifs_top.specs.Runs.{Runs, Gives, WritesNothing, IsInput, SaysUnread, ReadRose, read_total, outside}
use Rattle.ifs_top.specs.Steps.{Says, SaysMiss, Delivers, Decides, DecideCounts, StopSays, memory_line}
use Rattle.ifs_top.proofs.Ends.{Ends, Given, ends, keeps_stops, told_here, told_more}

-- what the words ask for
abbrev Words : Type 0
Words = Result Command WordCause

-- the miss of an input that the words name
abbrev Misses : Words → Reply → Option FileMap → Type 0
Misses asked reply files = reply.status ≡ 3 → (path : List ℕ) × IsInput asked path × SaysMiss path reply files

-- a reply was found
record Decided (asked : Words) (reply : Reply) (files : Option FileMap) (c d : FileCounts) : Type 0 where
  reply_is : IfSome files (λ held. reply ≡ outcome asked held)
  counts : DecideCounts (Ok reply) c d
  miss : Misses asked reply files
  refused : (cause : WordCause) → asked ≡ Err cause → (reply ≡ refused_words cause) × (d ≡ c)

told_same : (files : Option FileMap) (reply : Reply) (cause : WordCause) → reply ≡ refused_words cause → IfSome files (λ held. reply ≡ refused_words cause)
told_same None reply cause e = tt
told_same (Some held) reply cause e = e

abbrev refused_as : WordCause → Words
refused_as cause = Err cause

same_cause : (one other : WordCause) → refused_as one ≡ refused_as other → one ≡ other
same_cause one other e = cc

decided : (asked : Words) (reply : Reply) (files : Option FileMap) (c d : FileCounts) → Decides asked (Ok reply) files c d → Decided asked reply files c d
decided (Err cause) reply files c d h =
    let is : reply ≡ refused_words cause = elim h.0 [ inl ok ↦ cc | inr memory ↦ absurd cc ] in
    record {
      reply_is = told_same files reply cause is;
      counts = inl (rw is (lit< tt), h.1);
      miss = λ three. absurd (omega (arith, three, ap (λ (r : Reply). r.status) is));
      refused = λ other e. (subst (λ (x : WordCause). reply ≡ refused_words x) (same_cause cause other e) is, h.1);
    }
decided (Ok (Stub words)) reply files c d h = record {
  reply_is = h.reply;
  counts = h.counts;
  miss = h.miss;
  refused = λ other e. absurd cc;
}

-- the outputs of the reply, seen from before the read
stops_before : (reply : Reply) (out : Option (List ℕ)) (of : ℕ) (files : Option FileMap) (c d : FileCounts) (q : Places) → DecideCounts (Ok reply) c d → StopsWithin reply.outputs (places out of files d) q → StopsWithin reply.outputs (places out of files c) q
stops_before reply out of files c d q counts h =
    elim counts [
      | inl same ↦ subst (λ (x : FileCounts). StopsWithin reply.outputs (places out of files x) q) same.1 h
      | inr miss ↦
          let none : StopsWithin [] (places out of files d) q = subst (λ (os : List Output). StopsWithin os (places out of files d) q) miss.1 h in
          keeps_stops reply.outputs (places out of files c) q none
    ]

old_stops : (reply : Reply) (out : Option (List ℕ)) (of : ℕ) (files : Option FileMap) (c d : FileCounts) (q : Places) → DecideCounts (Ok reply) c d → IfSome files (λ _. StopsWithin reply.outputs (places out of files d) q) → IfSome files (λ _. StopsWithin reply.outputs (places out of files c) q)
old_stops reply out of files c d q counts h = told_more files (stops_before reply out of files c d q counts) h

told : (P : Reply → Type 0) (asked : Words) (reply : Reply) (files : Option FileMap) → IfSome files (λ held. reply ≡ outcome asked held) → IfSome files (λ _. P reply) → IfSome files (λ held. P (outcome asked held))
told P asked reply None is h = tt
told P asked reply (Some held) is h = subst P is h

gives_told : (reply : Reply) (r : ℕ) (left : Option (List ℕ)) (i : ℕ) (out : Option (List ℕ)) (of : ℕ) (files : Option FileMap) (c d : FileCounts) (q : Places) (err later : Option (List ℕ)) (f g : ℕ)
    → DecideCounts (Ok reply) c d → r ≡ reply.status → later ≡ append_known err reply.line → q ≡ written reply.outputs (places out of files d)
    → Gives reply r (outside left i out of files c err f) (record { left = left; input_faults = i; places = q; err = later; err_faults = g })
gives_told reply r left i out of files c d q err later f g counts status line at =
    elim counts [
      | inl same ↦
          let is : q ≡ written reply.outputs (places out of files c) = subst (λ (x : FileCounts). q ≡ written reply.outputs (places out of files x)) same.1 at in
          record { status_is = status; out_is = ap (λ (x : Places). x.out) is; files_are = ap (λ (x : Places). x.files) is; writes_are = ap (λ (x : Places). x.counts.writes) is; err_is = line }
      | inr miss ↦
          let is : q ≡ places out of files d = subst (λ (os : List Output). q ≡ written os (places out of files d)) miss.1 at in
          let none : written reply.outputs (places out of files c) ≡ places out of files c = ap (λ (os : List Output). written os (places out of files c)) miss.1 in
          record {
            status_is = status;
            out_is = ap (λ (x : Places). x.out) is ∙ sym (ap (λ (x : Places). x.out) none);
            files_are = ap (λ (x : Places). x.files) is ∙ sym (ap (λ (x : Places). x.files) none);
            writes_are = ap (λ (x : Places). x.counts.writes) is ∙ ap (λ (x : FileCounts). x.writes) miss.3 ∙ sym (ap (λ (x : Places). x.counts.writes) none);
            err_is = line;
          }
    ]

gives : (reply : Reply) (r : ℕ) (left : Option (List ℕ)) (i : ℕ) (out : Option (List ℕ)) (of : ℕ) (files : Option FileMap) (c d : FileCounts) (q : Places) (err later : Option (List ℕ)) (f g : ℕ)
    → DecideCounts (Ok reply) c d → Given reply r (places out of files d) q err later
    → IfSome files (λ _. Gives reply r (outside left i out of files c err f) (record { left = left; input_faults = i; places = q; err = later; err_faults = g }))
gives reply r left i out of files c d q err later f g counts given =
    told_more files (gives_told reply r left i out of files c d q err later f g counts given.status given.line) given.places

-- the counts of reading didn't grow, unless the file was missed
reads_grew : (reply : Reply) (r : ℕ) (left : Option (List ℕ)) (i : ℕ) (out : Option (List ℕ)) (of : ℕ) (files : Option FileMap) (c d : FileCounts) (q : Places) (err later : Option (List ℕ)) (f g : ℕ)
    → DecideCounts (Ok reply) c d → Ends reply r (places out of files d) q err later f g
    → read_total (outside left i out of files c err f) < read_total (record { left = left; input_faults = i; places = q; err = later; err_faults = g }) → (reply.status ≡ 3) × (reply.outputs ≡ [])
reads_grew reply r left i out of files c d q err later f g counts e h =
    elim counts [
      | inl same ↦
          let reads : q.counts.read_faults ≡ c.read_faults = e.reads ∙ ap (λ (x : FileCounts). x.read_faults) same.1 in
          let misses : q.counts.misses ≡ c.misses = e.misses ∙ ap (λ (x : FileCounts). x.misses) same.1 in
          absurd (omega (arith, reads, misses, h))
      | inr miss ↦ (miss.0, miss.1)
    ]

-- where there are no outputs, nothing is written
writes_nothing : (reply : Reply) (r : ℕ) (left : Option (List ℕ)) (i : ℕ) (out : Option (List ℕ)) (of : ℕ) (files : Option FileMap) (c d : FileCounts) (q : Places) (err later : Option (List ℕ)) (f g : ℕ)
    → DecideCounts (Ok reply) c d → reply.outputs ≡ [] → Ends reply r (places out of files d) q err later f g
    → WritesNothing (outside left i out of files c err f) (record { left = left; input_faults = i; places = q; err = later; err_faults = g })
writes_nothing reply r left i out of files c d q err later f g counts none e =
    let is : q ≡ places out of files d = e.none (ap length none) in
    let same : d.writes ≡ c.writes = elim counts [ inl same ↦ ap (λ (x : FileCounts). x.writes) same.1 | inr miss ↦ ap (λ (x : FileCounts). x.writes) miss.3 ] in
    record {
      keeps = (ap (λ (x : Places). x.out) is, ap (λ (x : Places). x.files) is);
      writes_are = ap (λ (x : Places). x.counts.writes) is ∙ same;
    }

-- the faults of writing are those of the places after the read
rose_after : (reply : Reply) (out : Option (List ℕ)) (of : ℕ) (files : Option FileMap) (c d : FileCounts) (q : Places) → DecideCounts (Ok reply) c d → PlaceRose (places out of files d) q → PlaceRose (places out of files c) q
rose_after reply out of files c d q counts h =
    let same : d.write_faults ≡ c.write_faults = elim counts [ inl same ↦ ap (λ (x : FileCounts). x.write_faults) same.1 | inr miss ↦ ap (λ (x : FileCounts). x.write_faults) miss.3 ] in
    elim h [ inl rose ↦ inl rose | inr rose ↦ inr (subst (λ (n : ℕ). Rose n q.counts.write_faults) same rose) ]

counts_at_most : (reply : Reply) (c d : FileCounts) → DecideCounts (Ok reply) c d → reply.status ≤ 3
counts_at_most reply c d counts = elim counts [ inl same ↦ omega (arith, same.0) | inr miss ↦ omega (arith, miss.0) ]

says_miss : (asked : Words) (reply : Reply) (r : ℕ) (left : Option (List ℕ)) (i : ℕ) (out : Option (List ℕ)) (of : ℕ) (files : Option FileMap) (c d : FileCounts) (q : Places) (err later : Option (List ℕ)) (f g : ℕ)
    → Decided asked reply files c d → Ends reply r (places out of files d) q err later f g → r ≡ 3
    → (path : List ℕ) × IsInput asked path × SaysUnread path (outside left i out of files c err f) (record { left = left; input_faults = i; places = q; err = later; err_faults = g })
says_miss asked reply r left i out of files c d q err later f g h e three =
    let given = e.low (omega (arith, three)) in
    let status : reply.status ≡ 3 = sym given.status ∙ three in
    let missed = h.miss status in
    let rose : Rose c.misses q.counts.misses = elim h.counts [ inl same ↦ absurd (omega (arith, same.0, status)) | inr miss ↦ subst (λ (n : ℕ). Rose c.misses n) (sym e.misses) miss.2 ] in
    (missed.0, missed.1, elim missed.2 [ inl missing ↦ inl (given.line ∙ ap (λ (x : Reply). append_known err x.line) missing.0, rose, missing.1) | inr large ↦ inr (inl (given.line ∙ ap (λ (x : Reply). append_known err x.line) large.0, rose, large.1)) ])

three_rose : (old new : Outside) (asked : Words) → ((path : List ℕ) × IsInput asked path × SaysUnread path old new) → ReadRose old new
three_rose old new asked said =
    elim said.2 [
      | inl missing ↦ inr (inr missing.1)
      | inr other ↦ elim other [ inl large ↦ inr (inr large.1) | inr failed ↦ inr (inl failed.1) ]
    ]

missed_outputs : (reply : Reply) (r : ℕ) (out : Option (List ℕ)) (of : ℕ) (files : Option FileMap) (c d : FileCounts) (q : Places) (err later : Option (List ℕ)) (f g : ℕ)
    → DecideCounts (Ok reply) c d → Ends reply r (places out of files d) q err later f g → r ≡ 3 → reply.outputs ≡ []
missed_outputs reply r out of files c d q err later f g counts e three =
    let given = e.low (omega (arith, three)) in
    elim counts [ inl same ↦ absurd (omega (arith, same.0, three, given.status)) | inr miss ↦ miss.1 ]

refused_places : (asked : Words) (cause : WordCause) (reply : Reply) (r : ℕ) (out : Option (List ℕ)) (of : ℕ) (files : Option FileMap) (c d : FileCounts) (q : Places) (err later : Option (List ℕ)) (f g : ℕ)
    → Decided asked reply files c d → Ends reply r (places out of files d) q err later f g → asked ≡ Err cause → q ≡ places out of files c
refused_places asked cause reply r out of files c d q err later f g h e none =
    let is = h.refused cause none in
    let outputs : reply.outputs ≡ [] = ap (λ (x : Reply). x.outputs) is.0 in
    e.none (ap length outputs) ∙ ap (places out of files) is.1

-- a reply that was found and delivered
after_reply : (asked : Words) (reply : Reply) (r : ℕ) (left : Option (List ℕ)) (i : ℕ) (out : Option (List ℕ)) (of : ℕ) (files : Option FileMap) (c d : FileCounts) (q : Places) (err later : Option (List ℕ)) (f g : ℕ)
    → Decided asked reply files c d → Ends reply r (places out of files d) q err later f g
    → Runs asked r (outside left i out of files c err f) (record { left = left; input_faults = i; places = q; err = later; err_faults = g })
after_reply asked reply r left i out of files c d q err later f g h e =
    let old = outside left i out of files c err f in
    let new : Outside = record { left = left; input_faults = i; places = q; err = later; err_faults = g } in
    let same_writes : d.write_faults ≡ c.write_faults = elim h.counts [ inl same ↦ ap (λ (x : FileCounts). x.write_faults) same.1 | inr miss ↦ ap (λ (x : FileCounts). x.write_faults) miss.3 ] in
    let just = λ (given : Given reply r (places out of files d) q err later). gives reply r left i out of files c d q err later f g h.counts given in
    record {
      left = refl;
      input_faults = refl;
      settled = λ low. told (λ (x : Reply). Gives x r old new) asked reply files h.reply_is (just (e.low (omega (arith, low))));
      complete = λ quiet not_five. told (λ (x : Reply). Gives x r old new) asked reply files h.reply_is (just (e.quiet quiet.err quiet.out (subst (λ (n : ℕ). q.counts.write_faults < raised n) (sym same_writes) quiet.writes) not_five));
      three = λ three. three_rose old new asked (says_miss asked reply r left i out of files c d q err later f g h e three);
      four = λ four. elim (e.four four) [ inl rose ↦ inl rose | inr rose ↦ inr (rose_after reply out of files c d q h.counts rose) ];
      at_least_three = λ grew. let miss = reads_grew reply r left i out of files c d q err later f g h.counts e grew in omega (arith, miss.0, e.least);
      at_least_four = λ grew. e.grew (omega (arith, grew, same_writes));
      at_most_five = e.most;
      stops = told (λ (x : Reply). StopsWithin x.outputs (places out of files c) q) asked reply files h.reply_is (old_stops reply out of files c d q h.counts e.stops);
      unread = λ three. writes_nothing reply r left i out of files c d q err later f g h.counts (missed_outputs reply r out of files c d q err later f g h.counts e three) e;
      grew_unread = λ grew. let miss = reads_grew reply r left i out of files c d q err later f g h.counts e grew in writes_nothing reply r left i out of files c d q err later f g h.counts miss.1 e;
      read_line = λ three. says_miss asked reply r left i out of files c d q err later f g h e three;
      write_line = λ four. elim (e.line four) [ inl rose ↦ inl rose | inr said ↦ inr (said.0, told (λ (x : Reply). Names x.outputs said.0) asked reply files h.reply_is (told_here files said.1), said.2, rose_after reply out of files c d q h.counts said.3) ];
      refused = λ cause none. refused_places asked cause reply r out of files c d q err later f g h e none;
      refused_line = λ cause none quiet not_five.
          let given = e.quiet quiet.err quiet.out (subst (λ (n : ℕ). q.counts.write_faults < raised n) (sym same_writes) quiet.writes) not_five in
          let is = (h.refused cause none).0 in
          (given.status ∙ ap (λ (x : Reply). x.status) is, given.line ∙ ap (λ (x : Reply). append_known err x.line) is);
    }

-- a run whose words gave a reply
pub replied : (asked : Words) (reply : Reply) (r : ℕ) (left : Option (List ℕ)) (i : ℕ) (out : Option (List ℕ)) (of : ℕ) (files later_files : Option FileMap) (c d : FileCounts) (q : Places) (err later : Option (List ℕ)) (f g : ℕ)
    → Decides asked (Ok reply) files c d → later_files ≡ files → Delivers reply r (places out of later_files d) q err later f g
    → Runs asked r (outside left i out of files c err f) (record { left = left; input_faults = i; places = q; err = later; err_faults = g })
replied asked reply r left i out of files later_files c d q err later f g decides keeps delivers =
    let h = decided asked reply files c d decides in
    let at : Delivers reply r (places out of files d) q err later f g = subst (λ (m : Option FileMap). Delivers reply r (places out of m d) q err later f g) keeps delivers in
    after_reply asked reply r left i out of files c d q err later f g h (ends reply r (places out of files d) q err later f g (counts_at_most reply c d h.counts) at)

-- why a run ended before it knew what to answer
record Halted (asked : Words) (r : ℕ) (c d : FileCounts) (err later : Option (List ℕ)) (f g : ℕ) : Type 0 where
  least : 3 ≤ r
  most : r ≤ 5
  four : r ≡ 4 → Rose f g
  grew : f < g → 4 ≤ r
  loud : d.read_faults < raised c.read_faults → r ≢ 5 → ⊥
  line : r ≡ 3 → (path : List ℕ) × IsInput asked path × (later ≡ append_known err (fault_line path (codes "read failed"))) × Rose c.read_faults d.read_faults
  writes : d.writes ≡ c.writes
  write_faults : d.write_faults ≡ c.write_faults
  refused : (cause : WordCause) → asked ≡ Err cause → d ≡ c

five_at_memory : (r : ℕ) (err later : Option (List ℕ)) (f g : ℕ) → Says memory_line 5 r err later f g → r ≡ 5
five_at_memory r err later f g says = elim says [ inl said ↦ said.0 | inr other ↦ elim other [ inl failed ↦ omega (arith, failed.0) | inr spent ↦ spent.0 ] ]

no_memory : (asked : Words) (r : ℕ) (c d : FileCounts) (err later : Option (List ℕ)) (f g : ℕ) → d.writes ≡ c.writes → d.write_faults ≡ c.write_faults → ((cause : WordCause) → asked ≡ Err cause → d ≡ c) → Says memory_line 5 r err later f g → Halted asked r c d err later f g
no_memory asked r c d err later f g writes faults refused says =
    let five = five_at_memory r err later f g says in
    record {
      least = omega (arith, five);
      most = omega (arith, five);
      four = λ e. absurd (omega (arith, e, five));
      grew = λ _. omega (arith, five);
      loud = λ _ h. h five;
      line = λ e. absurd (omega (arith, e, five));
      writes = writes;
      write_faults = faults;
      refused = refused;
    }

read_failed : (asked : Words) (path line : List ℕ) (r : ℕ) (c d : FileCounts) (err later : Option (List ℕ)) (f g : ℕ) → IsInput asked path → line ≡ fault_line path (codes "read failed") → Rose c.read_faults d.read_faults → d ≡ record c { read_faults = d.read_faults } → Says line 3 r err later f g → ((cause : WordCause) → asked ≡ Err cause → d ≡ c) → Halted asked r c d err later f g
read_failed asked path line r c d err later f g input is rose counts says refused =
    let bounds : (3 ≤ r) × (r ≤ 5) = elim says [ inl said ↦ (omega (arith, said.0), omega (arith, said.0)) | inr other ↦ elim other [ inl failed ↦ (omega (arith, failed.0), omega (arith, failed.0)) | inr spent ↦ (omega (arith, spent.0), omega (arith, spent.0)) ] ] in
    record {
      least = bounds.0;
      most = bounds.1;
      four = λ e. elim says [ inl said ↦ absurd (omega (arith, e, said.0)) | inr other ↦ elim other [ inl failed ↦ failed.1 | inr spent ↦ absurd (omega (arith, e, spent.0)) ] ];
      grew = λ h. elim says [ inl said ↦ absurd (omega (arith, h, said.2)) | inr other ↦ elim other [ inl failed ↦ omega (arith, failed.0) | inr spent ↦ omega (arith, spent.0) ] ];
      loud = λ h _. omega (arith, h, rose);
      line = λ e. elim says [
        | inl said ↦ (path, input, said.1 ∙ ap (append_known err) is, rose)
        | inr other ↦ elim other [ inl failed ↦ absurd (omega (arith, e, failed.0)) | inr spent ↦ absurd (omega (arith, e, spent.0)) ]
      ];
      writes = ap (λ (x : FileCounts). x.writes) counts;
      write_faults = ap (λ (x : FileCounts). x.write_faults) counts;
      refused = refused;
    }

halted : (asked : Words) (stop : Stop) (r : ℕ) (files : Option FileMap) (c d : FileCounts) (err later : Option (List ℕ)) (f g : ℕ) → Decides asked (Err stop) files c d → StopSays stop r err later f g → Halted asked r c d err later f g
halted (Err cause) (stops.Unread line) r files c d err later f g h says = absurd (elim h.0 [ inl ok ↦ cc | inr memory ↦ cc ])
halted (Err cause) stops.Memory r files c d err later f g h says =
    no_memory (Err cause) r c d err later f g (ap (λ (x : FileCounts). x.writes) h.1) (ap (λ (x : FileCounts). x.write_faults) h.1) (λ _ _. h.1) says
halted (Ok (Stub words)) (stops.Unread line) r files c d err later f g h says =
    read_failed (Ok (Stub words)) h.line.0 line r c d err later f g h.line.1 h.line.2 h.counts.0 h.counts.1 says (λ _ e. absurd cc)
halted (Ok (Stub words)) stops.Memory r files c d err later f g h says =
    no_memory (Ok (Stub words)) r c d err later f g (ap (λ (x : FileCounts). x.writes) h.counts) (ap (λ (x : FileCounts). x.write_faults) h.counts) (λ _ e. absurd cc) says

all_told : (asked : Words) (files : Option FileMap) (P : Reply → Type 0) → ((reply : Reply) → P reply) → IfSome files (λ held. P (outcome asked held))
all_told asked None P h = tt
all_told asked (Some held) P h = h (outcome asked held)

-- a run that ended before it knew what to answer
pub stopped_run : (asked : Words) (stop : Stop) (r : ℕ) (left : Option (List ℕ)) (i : ℕ) (out : Option (List ℕ)) (of : ℕ) (files later_files : Option FileMap) (c d : FileCounts) (err later : Option (List ℕ)) (f g : ℕ)
    → Decides asked (Err stop) files c d → later_files ≡ files → StopSays stop r err later f g
    → Runs asked r (outside left i out of files c err f) (outside left i out of later_files d later g)
stopped_run asked stop r left i out of files later_files c d err later f g decides keeps says =
    let h = halted asked stop r files c d err later f g decides says in
    let old = outside left i out of files c err f in
    let new = outside left i out of later_files d later g in
    let nothing : WritesNothing old new = record { keeps = (refl, keeps); writes_are = h.writes } in
    record {
      left = refl;
      input_faults = refl;
      settled = λ low. absurd (omega (arith, low, h.least));
      complete = λ quiet not_five. absurd (h.loud quiet.reads not_five);
      three = λ three. inr (inl (h.line three).3);
      four = λ four. inl (h.four four);
      at_least_three = λ _. h.least;
      at_least_four = λ grew. h.grew (omega (arith, grew, h.write_faults));
      at_most_five = h.most;
      stops = all_told asked files (λ x. StopsWithin x.outputs (places out of files c) (places out of later_files d)) (λ x. keeps_stops x.outputs (places out of files c) (places out of later_files d) (refl, keeps));
      unread = λ _. nothing;
      grew_unread = λ _. nothing;
      read_line = λ three. let said = h.line three in (said.0, said.1, inr (inr (said.2, said.3)));
      write_line = λ four. inl (h.four four);
      refused = λ cause none. ap (λ (m : Option FileMap). places out of m d) keeps ∙ ap (places out of files) (h.refused cause none);
      refused_line = λ cause none quiet not_five. absurd (h.loud quiet.reads not_five);
    }
