-- What the line of a command says: its words, and the edits that they mean.
use Rattle.std.proofs.Common.{◌≡◌, ℕ, ◌<◌, ◌^◌, ◌||◌, Bool, true, false, List, [], ◌∷◌, ◌++◌, Option, Some, None, length, map, refl, sym, ap, subst, ◌∙◌, arith, append_assoc}
use Rattle.std.specs.Prelude.{All, bytes_eq, codes, flat_map, if◌then◌else◌, option_and_then, option_map}
use Rattle.std.specs.List.{list_all, list_any}
use Rattle.std.proofs.lemmas.Bool.{false≢true}
use Rattle.std.proofs.lemmas.List.Elements.{All-head, All-tail}
use Rattle.std.proofs.lemmas.Slice.Eq.{bytes_eq-Decides}
use Rattle.crush_units.specs.ExactWeight.{exact_text}
use Rattle.crush_units.specs.Name.{IsName}
use Rattle.crush_units.proofs.ExactWeights.{exact_cut_again}
use Rattle.crush_edits.specs.declared.location.Pair.{Pair}
use Rattle.crush_edits.specs.declared.edit.Edit.{Edit}
use Rattle.crush_edits.specs.declared.edit.Edit.TheVariants.{Place, Move, Swap, Reweight, ReweightSubtree, Remove, AddBucket, Rename, SetClass, RemoveClass}
use Rattle.crush_edits.specs.declared.edit.Placing.{Placing}
use Rattle.crush_edits.specs.declared.edit.Placing.TheVariants.{Insert, CreateOrMove, Update}
use Rattle.crush_edits.specs.EditText.{edit_text, one_name, pairs_text, two_names}
use Rattle.crush_edits.specs.Keyword.{keyword_of, placing_word}
use Rattle.crush_history.specs.Ceph.{assent, ceph_words, has_dash, has_dashed_type, is_dashed}
use Rattle.crush_history.specs.Said.{IsSaid, device_named}
use Rattle.crush_ceph.specs.Commands.{command_line, has_option, joins, more_words, moves}
use Rattle.crush_ceph.specs.LawCommands.{edits_done}
use Rattle.crush_ceph.specs.LawLines.{IsForCeph, IsSaidStep, LineMeansEdits}
use Rattle.crush_ceph.specs.LineEdits.{assent_word, edits_of_line, edits_said, is_option, moved_to, placing_said, weighing_said, weight_said, without_options, words_of_line}
use Rattle.crush_ceph.specs.declared.steps.CephStep.{CephStep}
use Rattle.crush_ceph.specs.declared.steps.CephStep.TheVariants.{Does, ReweightAll}
use Rattle.crush_ceph.proofs.LineWords.{AreWords, IsWord, is_word_byte, name_word, neither, not_option, of_location, pair_word, pairs_spelled, plain_more, spelled, weight_undashed, weight_word, words_spelled}

-- the words before a command: they end in `--` if one of its words begins with `-`
abbrev head : Bool → List ℕ
head dashed = if dashed then codes "ceph osd crush -- " else codes "ceph osd crush "

-- what the line says
pub record IsSaidBy (c : List CephStep) : Type 0 where
  dashed : Bool
  first : List ℕ
  args : List (List ℕ)
  text : command_line c ≡ head dashed ++ (first ++ spelled args (codes "\n"))
  is : IsWord first
  are : AreWords args
  plain : dashed ≡ false → list_any is_option (first ∷ args) ≡ false
  command : bytes_eq first (codes "--") ≡ false
  says : edits_said (first ∷ args) ≡ Some (flat_map edits_done c)

-- the edits of a line, given its words after `ceph osd crush`
dashed_line : (rest : List ℕ) → edits_of_line (codes "ceph osd crush -- " ++ rest) ≡ edits_said (words_of_line rest)
unfolding edits_of_line words_of_line
dashed_line rest = refl

plain_line : (rest : List ℕ) → edits_of_line (codes "ceph osd crush " ++ rest) ≡ option_and_then edits_said (without_options (words_of_line rest))
unfolding edits_of_line words_of_line
plain_line rest = refl

plain_words : (word : List ℕ) (words : List (List ℕ)) → bytes_eq word (codes "--") ≡ false → list_any is_option (word ∷ words) ≡ false → without_options (word ∷ words) ≡ Some (word ∷ words)
plain_words word words command plain = rw (command, plain) refl

-- A LINE MEANS what it says
pub said_is_meant : (c : List CephStep) → IsSaidBy c → LineMeansEdits c
said_is_meant c by = at by.dashed refl where
  words : words_of_line (by.first ++ spelled by.args (codes "\n")) ≡ by.first ∷ by.args
  words = words_spelled by.first by.args by.is by.are

  at : (dashed : Bool) → by.dashed ≡ dashed → LineMeansEdits c
  at true e =
      ap edits_of_line (by.text ∙ ap (λ (d : Bool). head d ++ (by.first ++ spelled by.args (codes "\n"))) e)
      ∙ dashed_line (by.first ++ spelled by.args (codes "\n")) ∙ ap edits_said words ∙ by.says
  at false e =
      ap edits_of_line (by.text ∙ ap (λ (d : Bool). head d ++ (by.first ++ spelled by.args (codes "\n"))) e)
      ∙ plain_line (by.first ++ spelled by.args (codes "\n"))
      ∙ ap (λ (ws : List (List ℕ)). option_and_then edits_said (without_options ws)) words
      ∙ ap (option_and_then edits_said) (plain_words by.first by.args by.command (by.plain e)) ∙ by.says

-- the texts of commands as words
one_spelled : (first n end : List ℕ) → one_name first n ++ end ≡ first ++ spelled (n ∷ []) end
one_spelled first n end = append_assoc (first ++ codes " ") n end ∙ append_assoc first (codes " ") (n ++ end)

two_spelled : (first a b end : List ℕ) → two_names first a b ++ end ≡ first ++ spelled (a ∷ b ∷ []) end
two_spelled first a b end =
    append_assoc (one_name first a ++ codes " ") b end ∙ append_assoc (one_name first a) (codes " ") (b ++ end) ∙ one_spelled first a (32 ∷ (b ++ end))

-- the line of a single edit, whose words and assent are these words
alone : (e : Edit) (first : List ℕ) (args : List (List ℕ)) → 0 < length first → list_all is_word_byte first ≡ true → AreWords args
    → ceph_words e ++ (assent e ++ codes "\n") ≡ first ++ spelled args (codes "\n")
    → (has_dash e ≡ false → list_any is_option (first ∷ args) ≡ false)
    → bytes_eq first (codes "--") ≡ false → edits_said (first ∷ args) ≡ Some (e ∷ []) → IsSaidBy (Does e ∷ [])
alone e first args some bytes are text plain command says = record {
  dashed = has_dash e;
  first = first;
  args = args;
  text = append_assoc (head (has_dash e)) (ceph_words e) (assent e ++ codes "\n") ∙ ap (λ (r : List ℕ). head (has_dash e) ++ r) text;
  is = record { some = some; bytes = bytes };
  are = are;
  plain = plain;
  command = command;
  says = says;
}

-- words that don't begin with `-` aren't options
plain_one : (a : List ℕ) → is_dashed a ≡ false → list_any is_option (a ∷ []) ≡ false
plain_one a h = plain_more a [] (not_option a h) refl

plain_two : (a b : List ℕ) → (is_dashed a || is_dashed b) ≡ false → list_any is_option (a ∷ b ∷ []) ≡ false
plain_two a b h = let parts = neither (is_dashed a) (is_dashed b) h in plain_more a (b ∷ []) (not_option a parts.0) (plain_one b parts.1)

-- THE LINES of single edits: those that put a device
placed : (how : Placing) (d : ℕ) (n : List ℕ) (w : ℕ) (at : List Pair) → IsSaid (Place how d n w at)
    → 0 < length (placing_word how) → list_all is_word_byte (placing_word how) ≡ true → is_option (placing_word how) ≡ false → bytes_eq (placing_word how) (codes "--") ≡ false
    → edits_said (placing_word how ∷ n ∷ exact_text w ∷ map pair_word at) ≡ placing_said how (n ∷ exact_text w ∷ map pair_word at)
    → IsSaidBy (Does (Place how d n w at) ∷ [])
placed how d n w at is some bytes plain command reads =
    let are = of_location at is.at in
    let v = exact_text w in
    let located = ap (λ (o : Option (List Pair)). option_and_then (λ (device : ℕ). option_map (λ (l : List Pair). Place how device n (weight_said v) l ∷ []) o) (device_named n)) are.reads in
    let device = ap (λ (o : Option ℕ). option_and_then (λ (device : ℕ). Some (Place how device n (weight_said v) at ∷ [])) o) is.device in
    let weight = ap (λ (u : ℕ). Some (Place how d n u at ∷ [])) (exact_cut_again w is.weight) in
    alone (Place how d n w at) (placing_word how) (n ∷ v ∷ map pair_word at) some bytes (name_word n is.name, (weight_word w is.weight, are.words))
    (append_assoc (two_names (placing_word how) n v) (pairs_text at) (codes "\n") ∙ two_spelled (placing_word how) n v (pairs_text at ++ codes "\n")
    ∙ ap (λ (r : List ℕ). placing_word how ++ spelled (n ∷ v ∷ []) r) (pairs_spelled at (codes "\n")))
    (λ h.
    let parts = neither (is_dashed n) (has_dashed_type at) h in
    plain_more (placing_word how) (n ∷ v ∷ map pair_word at) plain
    (plain_more n (v ∷ map pair_word at) (not_option n parts.0) (plain_more v (map pair_word at) (not_option v (weight_undashed w is.weight)) (are.plain parts.1))))
    command (reads ∙ located ∙ device ∙ weight)

-- those that have a name and a weight
weighed : (edit : List ℕ → ℕ → Edit) (first n : List ℕ) (w : ℕ) → IsName n → w < 2 ^ 32
    → 0 < length first → list_all is_word_byte first ≡ true → is_option first ≡ false → bytes_eq first (codes "--") ≡ false
    → ceph_words (edit n w) ≡ two_names first n (exact_text w) → assent (edit n w) ≡ [] → has_dash (edit n w) ≡ is_dashed n
    → edits_said (first ∷ n ∷ exact_text w ∷ []) ≡ weighing_said edit (n ∷ exact_text w ∷ []) → IsSaidBy (Does (edit n w) ∷ [])
weighed edit first n w name small some bytes plain command text no_assent dash reads =
    let v = exact_text w in
    alone (edit n w) first (n ∷ v ∷ []) some bytes (name_word n name, (weight_word w small, tt))
    (ap (λ (r : List ℕ). r ++ (assent (edit n w) ++ codes "\n")) text ∙ ap (λ (r : List ℕ). two_names first n v ++ (r ++ codes "\n")) no_assent ∙ two_spelled first n v (codes "\n"))
    (λ h. plain_more first (n ∷ v ∷ []) plain (plain_more n (v ∷ []) (not_option n (sym dash ∙ h)) (plain_one v (weight_undashed w small))))
    command (reads ∙ ap (λ (u : ℕ). Some (edit n u ∷ [])) (exact_cut_again w small))

-- all of them
single : (e : Edit) → IsSaid e → IsForCeph e → IsSaidBy (Does e ∷ [])
unfolding keyword_of
single (Place Insert d n w at) is asked = placed Insert d n w at is (omega arith) refl refl refl refl
single (Place CreateOrMove d n w at) is asked = placed CreateOrMove d n w at is (omega arith) refl refl refl refl
single (Place Update d n w at) is asked = placed Update d n w at is (omega arith) refl refl refl refl
single (Move n at) is asked =
    let are = of_location at is.1 in
    alone (Move n at) (codes "move") (n ∷ map pair_word at) (omega arith) refl (name_word n is.0, are.words)
    (append_assoc (one_name (codes "move") n) (pairs_text at) (codes "\n") ∙ one_spelled (codes "move") n (pairs_text at ++ codes "\n")
    ∙ ap (λ (r : List ℕ). codes "move" ++ spelled (n ∷ []) r) (pairs_spelled at (codes "\n")))
    (λ h. let parts = neither (is_dashed n) (has_dashed_type at) h in plain_more n (map pair_word at) (not_option n parts.0) (are.plain parts.1))
    refl (ap (option_map (λ (l : List Pair). Move n l ∷ [])) are.reads)
single (Swap a b) is asked =
    alone (Swap a b) (codes "swap-bucket") (a ∷ b ∷ assent_word ∷ []) (omega arith) refl
    (name_word a is.0, (name_word b is.1, (record { some = omega arith; bytes = refl }, tt)))
    (two_spelled (codes "swap-bucket") a b (spelled (assent_word ∷ []) (codes "\n")))
    (λ h. let parts = neither (is_dashed a) (is_dashed b) h in plain_more a (b ∷ assent_word ∷ []) (not_option a parts.0) (plain_more b (assent_word ∷ []) (not_option b parts.1) refl))
    refl refl
single (Reweight n w) is asked = weighed (λ (x : List ℕ) (u : ℕ). Reweight x u) (codes "reweight") n w is.0 is.1 (omega arith) refl refl refl refl refl refl refl
single (ReweightSubtree n w) is asked = weighed (λ (x : List ℕ) (u : ℕ). ReweightSubtree x u) (codes "reweight-subtree") n w is.0 is.1 (omega arith) refl refl refl refl refl refl refl
single (Remove n) is asked =
    alone (Remove n) (codes "rm") (n ∷ []) (omega arith) refl (name_word n is, tt) (one_spelled (codes "rm") n (codes "\n")) (λ h. plain_one n h) refl refl
single (AddBucket n kind) is asked =
    alone (AddBucket n kind) (codes "add-bucket") (n ∷ kind ∷ []) (omega arith) refl (name_word n is.0, (name_word kind is.1, tt))
    (two_spelled (codes "add-bucket") n kind (codes "\n")) (λ h. plain_two n kind h) refl refl
single (Rename from to) is asked =
    alone (Rename from to) (codes "rename-bucket") (from ∷ to ∷ []) (omega arith) refl (name_word from is.0, (name_word to is.1, tt))
    (two_spelled (codes "rename-bucket") from to (codes "\n")) (λ h. plain_two from to h) refl refl
single (SetClass n class) is asked =
    alone (SetClass n class) (codes "set-device-class") (class ∷ n ∷ []) (omega arith) refl (name_word class is.1, (name_word n is.0, tt))
    (two_spelled (codes "set-device-class") class n (codes "\n")) (λ h. plain_two class n h) refl
    (ap (λ (b : Bool). if b then None else Some (SetClass n class ∷ [])) asked)
single (RemoveClass n) is asked =
    alone (RemoveClass n) (codes "rm-device-class") (n ∷ []) (omega arith) refl (name_word n is, tt) (one_spelled (codes "rm-device-class") n (codes "\n")) (λ h. plain_one n h) refl
    (ap (λ (b : Bool). if b then None else Some (RemoveClass n ∷ [])) asked)

-- A COMMAND OF SEVERAL STEPS: each step joins the one before it
abbrev pub IsChain : List CephStep → Type 0
IsChain [] = Unit {0}
IsChain (step ∷ []) = Unit {0}
IsChain (step ∷ next ∷ more) = (joins step next ≡ true) × IsChain (next ∷ more)

same_bytes : (a b : List ℕ) → bytes_eq a b ≡ true → a ≡ b
same_bytes a b e = (bytes_eq-Decides a b).0 e

-- the names that further steps add to a command, each of which makes this edit
record AddsNames (edit : List ℕ → Edit) (more : List CephStep) : Type 0 where
  names : List (List ℕ)
  text : flat_map more_words more ++ codes "\n" ≡ spelled names (codes "\n")
  done : flat_map edits_done more ≡ map edit names
  are : AreWords names
  plain : list_any has_option more ≡ false → list_any is_option names ≡ false

taken : (n : List ℕ) (more : List CephStep) → IsChain (Does (RemoveClass n) ∷ more) → All IsSaidStep more → AddsNames (λ (x : List ℕ). RemoveClass x) more
taken n [] chain all = record { names = []; text = refl; done = refl; are = tt; plain = λ h. refl }
taken n (Does (RemoveClass m) ∷ more) chain all =
    let is = All-head IsSaidStep (Does (RemoveClass m)) more all in
    let rest = taken m more chain.1 (All-tail IsSaidStep (Does (RemoveClass m)) more all) in
    record {
      names = m ∷ rest.names;
      text = ap (λ (r : List ℕ). 32 ∷ r) (append_assoc m (flat_map more_words more) (codes "\n") ∙ ap (λ (r : List ℕ). m ++ r) rest.text);
      done = ap (λ (es : List Edit). RemoveClass m ∷ es) rest.done;
      are = (name_word m is.0, rest.are);
      plain = λ h. let parts = neither (is_dashed m) (list_any has_option more) h in plain_more m rest.names (not_option m parts.0) (rest.plain parts.1);
    }
taken n (step ∷ more) chain all = absurd (false≢true chain.0)

given : (n class : List ℕ) (more : List CephStep) → IsChain (Does (SetClass n class) ∷ more) → All IsSaidStep more → AddsNames (λ (x : List ℕ). SetClass x class) more
given n class [] chain all = record { names = []; text = refl; done = refl; are = tt; plain = λ h. refl }
given n class (Does (SetClass m other) ∷ more) chain all =
    let same = sym (same_bytes class other chain.0) in
    let is = All-head IsSaidStep (Does (SetClass m other)) more all in
    let of_other = given m other more chain.1 (All-tail IsSaidStep (Does (SetClass m other)) more all) in
    let rest = subst (λ (c : List ℕ). AddsNames (λ (x : List ℕ). SetClass x c) more) same of_other in
    record {
      names = m ∷ rest.names;
      text = ap (λ (r : List ℕ). 32 ∷ r) (append_assoc m (flat_map more_words more) (codes "\n") ∙ ap (λ (r : List ℕ). m ++ r) rest.text);
      done = ap (λ (c : List ℕ). SetClass m c ∷ flat_map edits_done more) same ∙ ap (λ (es : List Edit). SetClass m class ∷ es) rest.done;
      are = (name_word m is.0.0, rest.are);
      plain = λ h.
          let parts = neither (is_dashed other || is_dashed m) (list_any has_option more) h in
          let both = neither (is_dashed other) (is_dashed m) parts.0 in
          plain_more m rest.names (not_option m both.1) (rest.plain parts.1);
    }
given n class (step ∷ more) chain all = absurd (false≢true chain.0)

-- the line of a first step and of further steps that add these words to it
joined : (e : Edit) (next : CephStep) (more : List CephStep) (first : List ℕ) (args : List (List ℕ))
    → 0 < length first → list_all is_word_byte first ≡ true → AreWords args
    → edit_text e ++ (flat_map more_words (next ∷ more) ++ codes "\n") ≡ first ++ spelled args (codes "\n")
    → (list_any has_option (Does e ∷ next ∷ more) ≡ false → list_any is_option (first ∷ args) ≡ false)
    → bytes_eq first (codes "--") ≡ false → edits_said (first ∷ args) ≡ Some (flat_map edits_done (Does e ∷ next ∷ more)) → IsSaidBy (Does e ∷ next ∷ more)
joined e next more first args some bytes are text plain command says = record {
  dashed = list_any has_option (Does e ∷ next ∷ more);
  first = first;
  args = args;
  text = ap (λ (r : List ℕ). head (list_any has_option (Does e ∷ next ∷ more)) ++ r) text;
  is = record { some = some; bytes = bytes };
  are = are;
  plain = plain;
  command = command;
  says = says;
}

-- a new bucket, with the move to its location
made : (n kind m : List ℕ) (at : List Pair) → moves n (Move m at) ≡ true → IsSaid (AddBucket n kind) → IsSaid (Move m at) → 0 < length at → IsSaidBy (Does (AddBucket n kind) ∷ Does (Move m at) ∷ [])
unfolding keyword_of
made n kind m [] same is moved some = absurd (omega (arith, some))
made n kind m (p ∷ at) same is moved some =
    let are = of_location (p ∷ at) moved.1 in
    joined (AddBucket n kind) (Does (Move m (p ∷ at))) [] (codes "add-bucket") (n ∷ kind ∷ map pair_word (p ∷ at)) (omega arith) refl
    (name_word n is.0, (name_word kind is.1, are.words))
    (ap (λ (r : List ℕ). two_names (codes "add-bucket") n kind ++ r) (append_assoc (pairs_text (p ∷ at)) [] (codes "\n") ∙ pairs_spelled (p ∷ at) (codes "\n"))
    ∙ two_spelled (codes "add-bucket") n kind (spelled (map pair_word (p ∷ at)) (codes "\n")))
    (λ h.
    let parts = neither (is_dashed n || is_dashed kind) ((is_dashed m || has_dashed_type (p ∷ at)) || false) h in
    let names = neither (is_dashed n) (is_dashed kind) parts.0 in
    let others = neither (is_dashed m || has_dashed_type (p ∷ at)) false parts.1 in
    plain_more n (kind ∷ map pair_word (p ∷ at)) (not_option n names.0) (plain_more kind (map pair_word (p ∷ at)) (not_option kind names.1) (are.plain (neither (is_dashed m) (has_dashed_type (p ∷ at)) others.0).1)))
    refl
    (ap (option_map (λ (l : List Pair). AddBucket n kind ∷ moved_to n l)) are.reads ∙ ap (λ (x : List ℕ). Some (AddBucket n kind ∷ Move x (p ∷ at) ∷ [])) (same_bytes n m same))

-- EACH COMMAND
pub is_said : (c : List CephStep) → 0 < length c → IsChain c → All IsSaidStep c → IsSaidBy c
unfolding keyword_of
is_said [] some chain all = absurd (omega (arith, some))
is_said (ReweightAll ∷ []) some chain all = record {
  dashed = false;
  first = codes "reweight-all";
  args = [];
  text = refl;
  is = record { some = omega arith; bytes = refl };
  are = tt;
  plain = λ h. refl;
  command = refl;
  says = refl;
}
is_said (ReweightAll ∷ next ∷ more) some chain all = absurd (false≢true chain.0)
is_said (Does e ∷ []) some chain all = let is = All-head IsSaidStep (Does e) [] all in single e is.0 is.1
is_said (Does (AddBucket n kind) ∷ Does (Move m at) ∷ []) some chain all =
    let is = All-head IsSaidStep (Does (AddBucket n kind)) (Does (Move m at) ∷ []) all in
    let moved = All-head IsSaidStep (Does (Move m at)) [] (All-tail IsSaidStep (Does (AddBucket n kind)) (Does (Move m at) ∷ []) all) in
    made n kind m at chain.0 is.0 moved.0 moved.1
is_said (Does (RemoveClass n) ∷ next ∷ more) some chain all =
    let is = All-head IsSaidStep (Does (RemoveClass n)) (next ∷ more) all in
    let rest = taken n (next ∷ more) chain (All-tail IsSaidStep (Does (RemoveClass n)) (next ∷ more) all) in
    joined (RemoveClass n) next more (codes "rm-device-class") (n ∷ rest.names) (omega arith) refl (name_word n is.0, rest.are)
    (ap (λ (r : List ℕ). one_name (codes "rm-device-class") n ++ r) rest.text ∙ one_spelled (codes "rm-device-class") n (spelled rest.names (codes "\n")))
    (λ h. let parts = neither (is_dashed n) (list_any has_option (next ∷ more)) h in plain_more n rest.names (not_option n parts.0) (rest.plain parts.1))
    refl
    (ap (λ (b : Bool). if b then None else Some (RemoveClass n ∷ map (λ (x : List ℕ). RemoveClass x) rest.names)) is.1
    ∙ ap (λ (es : List Edit). Some (RemoveClass n ∷ es)) (sym rest.done))
is_said (Does (SetClass n class) ∷ next ∷ more) some chain all =
    let is = All-head IsSaidStep (Does (SetClass n class)) (next ∷ more) all in
    let rest = given n class (next ∷ more) chain (All-tail IsSaidStep (Does (SetClass n class)) (next ∷ more) all) in
    joined (SetClass n class) next more (codes "set-device-class") (class ∷ n ∷ rest.names) (omega arith) refl (name_word class is.0.1, (name_word n is.0.0, rest.are))
    (ap (λ (r : List ℕ). two_names (codes "set-device-class") class n ++ r) rest.text ∙ two_spelled (codes "set-device-class") class n (spelled rest.names (codes "\n")))
    (λ h.
    let parts = neither (is_dashed class || is_dashed n) (list_any has_option (next ∷ more)) h in
    let both = neither (is_dashed class) (is_dashed n) parts.0 in
    plain_more class (n ∷ rest.names) (not_option class both.0) (plain_more n rest.names (not_option n both.1) (rest.plain parts.1)))
    refl
    (ap (λ (b : Bool). if b then None else Some (SetClass n class ∷ map (λ (x : List ℕ). SetClass x class) rest.names)) is.1
    ∙ ap (λ (es : List Edit). Some (SetClass n class ∷ es)) (sym rest.done))
is_said (Does (AddBucket n kind) ∷ Does (Move m at) ∷ ReweightAll ∷ more) some chain all = absurd (false≢true chain.1.0)
is_said (Does (AddBucket n kind) ∷ Does (Move m at) ∷ Does e ∷ more) some chain all = absurd (false≢true chain.1.0)
is_said (Does e ∷ ReweightAll ∷ more) some chain all = absurd (false≢true chain.0)
is_said (Does e ∷ Does f ∷ more) some chain all = absurd (false≢true chain.0)
