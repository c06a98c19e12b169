-- Laws of runs over lines.
use Rattle.std.proofs.Common.{◌≡◌, ◌≢◌, ◌∙◌, ◌+◌, arith, sym, ap, refl, subst, ℕ, List, [], ◌∷◌, ◌++◌, length, append-nil, append_assoc}
use Rattle.std.specs.List.{AllByRecursion}
use Rattle.machine.specs.Messages.{Message}
use Rattle.machine.specs.Lines.{Lines, lines}
use Rattle.machine.specs.Script.{Reading, Heading, LineOutcome, Went, Faulty, take_line, said_by, Standing, At, Fault, Ran, ran_on, run_lines, AllSay}
use Rattle.machine.specs.declared.script.ScriptReason.{ScriptReason}
use Rattle.subs_run.specs.Runs.{ran}
use Rattle.subs_run.specs.Standing.{AreRead}
use Rattle.subs_run.proofs.Lines.{lines-append, push_byte, push_end}

abbrev pub ran_as : List ℕ → List (List ℕ) → Standing → Ran
ran_as text said standing = record { text = text; said = said; standing = standing }

-- the transcript of one run is that of another with more behind it, and so are its texts of clients
pub record Grows (first whole : Ran) : Type 0 where
  pub text : List ℕ
  pub text_is : whole.text ≡ first.text ++ text
  pub said : List (List ℕ)
  pub said_is : whole.said ≡ first.said ++ said

module _ (meant : List ℕ → Message) where
  -- a run goes on over further lines, of which the first has this number
  abbrev pub from_standing : List ℕ → List (List ℕ) → ℕ → List (List ℕ) → Standing → Ran
  from_standing text said number ms (At reading) =
      ran_as (text ++ (run_lines meant number reading ms).text) (said ++ (run_lines meant number reading ms).said)
      (run_lines meant number reading ms).standing
  from_standing text said number ms (Fault line reason) = ran_as text said (Fault line reason)

  abbrev pub goes_on : ℕ → List (List ℕ) → Ran → Ran
  goes_on number ms r = from_standing r.text r.said number ms r.standing

  after_front : (t u : List ℕ) (v w : List (List ℕ)) (number : ℕ) (ms : List (List ℕ)) (s : Standing) →
      ran_as (t ++ (from_standing u w number ms s).text) (v ++ (from_standing u w number ms s).said)
      (from_standing u w number ms s).standing
      ≡ from_standing (t ++ u) (v ++ w) number ms s
  after_front t u v w number ms (At reading) =
      let more : Ran = run_lines meant number reading ms in
      ap (λ (x : List ℕ). ran_as x (v ++ (w ++ more.said)) more.standing) (sym (append_assoc t u more.text))
      ∙ ap (λ (x : List (List ℕ)). ran_as ((t ++ u) ++ more.text) x more.standing) (sym (append_assoc v w more.said))
  after_front t u v w number ms (Fault line reason) = refl

  ran_on-goes_on : (n number : ℕ) (said : List (List ℕ)) (took : LineOutcome) (ms : List (List ℕ))
      (f g : Reading → Ran) →
      ((r : Reading) → f r ≡ goes_on number ms (g r)) → ran_on n said took f ≡ goes_on number ms (ran_on n said took g)
  ran_on-goes_on n number said (Went reading t) ms f g e =
      ap (λ (r : Ran). ran_on n said (Went reading t) (λ _. r)) (e reading)
      ∙ after_front t (g reading).text said (g reading).said number ms (g reading).standing
  ran_on-goes_on n number said (Faulty reason) ms f g e = refl

  -- the lines in two parts
  pub run_lines-append : (n : ℕ) (r : Reading) (ls ms : List (List ℕ)) →
      run_lines meant n r (ls ++ ms) ≡ goes_on (n + length ls) ms (run_lines meant n r ls)
  run_lines-append n r [] ms = ap (λ (k : ℕ). run_lines meant k r ms) (omega arith)
  run_lines-append n r (l ∷ ls) ms =
      ran_on-goes_on n (n + length (l ∷ ls)) (said_by r l) (take_line meant r l) ms
      (λ q. run_lines meant (n + 1) q (ls ++ ms)) (λ q. run_lines meant (n + 1) q ls)
      (λ q. run_lines-append (n + 1) q ls ms
      ∙ ap (λ (k : ℕ). goes_on k ms (run_lines meant (n + 1) q ls)) (omega arith))

  -- a text in two pieces
  pub ran-append : (a b : List ℕ) →
      ran meant (a ++ b) ≡ goes_on (1 + length (lines a).0) (lines ((lines a).1 ++ b)).0 (ran meant a)
  ran-append a b =
      ap (λ (s : Lines). run_lines meant 1 (Heading []) s.0) (lines-append a b)
      ∙ run_lines-append 1 (Heading []) (lines a).0 (lines ((lines a).1 ++ b)).0

  -- the run of a text goes on where the text does
  longer_by : (r : Ran) (number : ℕ) (ms : List (List ℕ)) (s : Standing) →
      Grows r (from_standing r.text r.said number ms s)
  longer_by r number ms (At reading) =
      let more : Ran = run_lines meant number reading ms in
      record { text = more.text; text_is = refl; said = more.said; said_is = refl }
  longer_by r number ms (Fault line reason) =
      record { text = []; text_is = sym (append-nil r.text); said = []; said_is = sym (append-nil r.said) }

  pub ran-longer : (a b : List ℕ) → Grows (ran meant a) (ran meant (a ++ b))
  ran-longer a b =
      subst (Grows (ran meant a)) (sym (ran-append a b))
      (longer_by (ran meant a) (1 + length (lines a).0) (lines ((lines a).1 ++ b)).0 (ran meant a).standing)

  -- behind a fault nothing runs
  stays : (r : Ran) (number line : ℕ) (reason : ScriptReason) (ms : List (List ℕ)) →
      r.standing ≡ Fault line reason → goes_on number ms r ≡ r
  stays r number line reason ms e =
      ap (λ (s : Standing). from_standing r.text r.said number ms s) e
      ∙ ap (λ (s : Standing). ran_as r.text r.said s) (sym e)

  pub ran-fault : (a b : List ℕ) (line : ℕ) (reason : ScriptReason) → (ran meant a).standing ≡ Fault line reason →
      ran meant (a ++ b) ≡ ran meant a
  ran-fault a b line reason e =
      ran-append a b
      ∙ stays (ran meant a) (1 + length (lines a).0) line reason (lines ((lines a).1 ++ b)).0 e

  -- one more byte that is no line end
  pub ran-byte : (a : List ℕ) (b : ℕ) → b ≢ 10 → ran meant (a ++ b ∷ []) ≡ ran meant a
  ran-byte a b ne = ap (λ (s : Lines). run_lines meant 1 (Heading []) s.0) (push_byte a b ne)

  -- a line end: the line is taken
  abbrev pub over : Ran → List ℕ → Reading → ℕ → LineOutcome → Ran
  over r line reading number t =
      let more : Ran = ran_on number (said_by reading line) t (λ q. run_lines meant (number + 1) q []) in
      ran_as (r.text ++ more.text) (r.said ++ more.said) more.standing

  took : (r : Ran) (number : ℕ) (line : List ℕ) (reading : Reading) → r.standing ≡ At reading →
      goes_on number (line ∷ []) r ≡ over r line reading number (take_line meant reading line)
  took r number line reading e = ap (λ (s : Standing). from_standing r.text r.said number (line ∷ []) s) e

  pub ran-end : (a : List ℕ) (reading : Reading) → (ran meant a).standing ≡ At reading →
      ran meant (a ++ 10 ∷ [])
      ≡ over (ran meant a) (lines a).1 reading (1 + length (lines a).0) (take_line meant reading (lines a).1)
  ran-end a reading e =
      ap (λ (s : Lines). run_lines meant 1 (Heading []) s.0) (push_end a)
      ∙ (run_lines-append 1 (Heading []) (lines a).0 ((lines a).1 ∷ [])
      ∙ took (ran meant a) (1 + length (lines a).0) (lines a).1 reading e)

  -- ---- what the texts of clients mean

  pub say_front : (xs ys : List (List ℕ)) → AllSay meant (xs ++ ys) → AllSay meant xs
  say_front [] ys says = tt
  say_front (x ∷ xs) ys says = (says.0, say_front xs ys says.1)

  pub say_back : (xs ys : List (List ℕ)) → AllSay meant (xs ++ ys) → AllSay meant ys
  say_back [] ys says = says
  say_back (x ∷ xs) ys says = say_back xs ys says.1

  -- where the texts of more have these meanings, those of its beginning have them
  pub read-front : (a b : List ℕ) → AreRead meant (a ++ b) → AreRead meant a
  read-front a b says =
      let more = ran-longer a b in
      say_front (ran meant a).said more.said (subst (AllSay meant) more.said_is says)

  said_first : (number : ℕ) (said : List (List ℕ)) (t : LineOutcome) (f : Reading → Ran) →
      AllSay meant (ran_on number said t f).said → AllSay meant said
  said_first number said (Went reading text) f says = say_front said (f reading).said says
  said_first number said (Faulty reason) f says = says

  -- the line that comes to its end has these meanings
  pub line-says : (a : List ℕ) (reading : Reading) → (ran meant a).standing ≡ At reading →
      AreRead meant (a ++ 10 ∷ []) → AllSay meant (said_by reading (lines a).1)
  line-says a reading e says =
      let number : ℕ = 1 + length (lines a).0 in
      let t : LineOutcome = take_line meant reading (lines a).1 in
      let f : Reading → Ran = λ q. run_lines meant (number + 1) q [] in
      said_first number (said_by reading (lines a).1) t f
      (say_back (ran meant a).said (ran_on number (said_by reading (lines a).1) t f).said
      (subst (AllSay meant) (ap (λ (r : Ran). r.said) (ran-end a reading e)) says))
