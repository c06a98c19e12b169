-- The grammar of documents as a relation by cases: GraphQL October 2021, sections 2.2 to 2.12 and Appendix B.
-- `Rule ts x rest` says that the lexemes ts are x and then rest.
use Rattle.std.specs.Prelude.{◌≡◌, ◌≢◌, ℕ, Bool, true, false, List, [], ◌∷◌, Option, Some, None, codes}
use Rattle.request_model.specs.Strings.{Text, unescaped}
use Rattle.request_model.specs.declared.document.GValue.{GValue}
use Rattle.request_model.specs.declared.document.GValue.TheVariants as v
use Rattle.request_model.specs.declared.document.GPair.{GPair, roll-GPair}
use Rattle.request_model.specs.declared.document.Directive.{Directive}
use Rattle.request_model.specs.declared.document.TypeRef.{TypeRef}
use Rattle.request_model.specs.declared.document.TypeRef.TheVariants as t
use Rattle.request_model.specs.declared.document.VarDef.{VarDef}
use Rattle.request_model.specs.declared.document.Selection.{Selection}
use Rattle.request_model.specs.declared.document.Selection.TheVariants as s
use Rattle.request_model.specs.declared.document.OpWord.{OpWord}
use Rattle.request_model.specs.declared.document.OpWord.TheVariants as word
use Rattle.request_model.specs.declared.document.Definition.{Definition}
use Rattle.request_model.specs.declared.document.Definition.TheVariants as d
use Rattle.request_model.specs.declared.document.Document.{Document}

-- a lexeme without its place: a punctuator by its byte, a name or an integer as it is written, or a string with what
-- stands between its quotes
pub data Lexeme : Type 0 where
  Punct : ℕ → Lexeme
  Spread : Lexeme
  Name : Text → Lexeme
  Int : Text → Lexeme
  Quoted : Text → Lexeme

abbrev pub bang : Lexeme
bang = Punct 33

abbrev pub dollar : Lexeme
dollar = Punct 36

abbrev pub paren : Lexeme
paren = Punct 40

abbrev pub end_paren : Lexeme
end_paren = Punct 41

abbrev pub colon : Lexeme
colon = Punct 58

abbrev pub equals : Lexeme
equals = Punct 61

abbrev pub at_sign : Lexeme
at_sign = Punct 64

abbrev pub bracket : Lexeme
bracket = Punct 91

abbrev pub end_bracket : Lexeme
end_bracket = Punct 93

abbrev pub brace : Lexeme
brace = Punct 123

abbrev pub end_brace : Lexeme
end_brace = Punct 125

-- Rule*
pub data Many {A : Type 0} (R : List Lexeme → A → List Lexeme → Type 0) : List Lexeme → List A → List Lexeme →
    Type 0 where
  no_more : {rest : List Lexeme} → Many R rest [] rest
  one_more : {ts mid rest : List Lexeme} {x : A} {xs : List A} → R ts x mid → Many R mid xs rest →
      Many R ts (x ∷ xs) rest

-- Name?
pub data MaybeName : List Lexeme → Option Text → List Lexeme → Type 0 where
  no_name : {rest : List Lexeme} → MaybeName rest None rest
  a_name : {n : Text} {rest : List Lexeme} → MaybeName (Name n ∷ rest) (Some n) rest

-- ---- values (section 2.9); the constant forms have no variable

mutual
  -- $ Name | Int | String | true | false | null | Enum | [ Value* ] | { (Name : Value)* }
  pub data IsValue (constant : Bool) : List Lexeme → GValue → List Lexeme → Type 0 where
    variable : {n : Text} {rest : List Lexeme} → constant ≡ false →
        IsValue constant (dollar ∷ Name n ∷ rest) (v.Var n) rest
    integer : {n : Text} {rest : List Lexeme} → IsValue constant (Int n ∷ rest) (v.Int n) rest
    string : {n : Text} {rest : List Lexeme} → IsValue constant (Quoted n ∷ rest) (v.Text (unescaped n)) rest
    true_ : {rest : List Lexeme} → IsValue constant (Name (codes "true") ∷ rest) (v.Bool true) rest
    false_ : {rest : List Lexeme} → IsValue constant (Name (codes "false") ∷ rest) (v.Bool false) rest
    null : {rest : List Lexeme} → IsValue constant (Name (codes "null") ∷ rest) v.Null rest
    enum : {n : Text} {rest : List Lexeme} → n ≢ codes "true" → n ≢ codes "false" → n ≢ codes "null" →
        IsValue constant (Name n ∷ rest) (v.Enum n) rest
    list : {ts rest : List Lexeme} {xs : List GValue} → IsValues constant ts xs (end_bracket ∷ rest) →
        IsValue constant (bracket ∷ ts) (v.Many xs) rest
    object : {ts rest : List Lexeme} {xs : List GPair} → IsPairs constant ts xs (end_brace ∷ rest) →
        IsValue constant (brace ∷ ts) (v.Object xs) rest

  pub data IsValues (constant : Bool) : List Lexeme → List GValue → List Lexeme → Type 0 where
    no_values : {rest : List Lexeme} → IsValues constant rest [] rest
    more_values : {ts mid rest : List Lexeme} {x : GValue} {xs : List GValue} → IsValue constant ts x mid →
        IsValues constant mid xs rest → IsValues constant ts (x ∷ xs) rest

  -- Name : Value
  pub data IsPair (constant : Bool) : List Lexeme → GPair → List Lexeme → Type 0 where
    a_pair : {n : Text} {ts rest : List Lexeme} {x : GValue} → IsValue constant ts x rest →
        IsPair constant (Name n ∷ colon ∷ ts) (roll-GPair (record { name = n; value = x })) rest

  pub data IsPairs (constant : Bool) : List Lexeme → List GPair → List Lexeme → Type 0 where
    no_pairs : {rest : List Lexeme} → IsPairs constant rest [] rest
    more_pairs : {ts mid rest : List Lexeme} {x : GPair} {xs : List GPair} → IsPair constant ts x mid →
        IsPairs constant mid xs rest → IsPairs constant ts (x ∷ xs) rest

-- ---- arguments and directives (sections 2.6 and 2.12)

-- Arguments? : nothing, or ( (Name : Value)+ )
pub data MaybeArguments (constant : Bool) : List Lexeme → List GPair → List Lexeme → Type 0 where
  no_arguments : {rest : List Lexeme} → MaybeArguments constant rest [] rest
  some_arguments : {ts mid rest : List Lexeme} {x : GPair} {xs : List GPair} → IsPair constant ts x mid →
      IsPairs constant mid xs (end_paren ∷ rest) → MaybeArguments constant (paren ∷ ts) (x ∷ xs) rest

-- @ Name Arguments?
pub data IsDirective (constant : Bool) : List Lexeme → Directive → List Lexeme → Type 0 where
  a_directive : {n : Text} {ts rest : List Lexeme} {xs : List GPair} → MaybeArguments constant ts xs rest →
      IsDirective constant (at_sign ∷ Name n ∷ ts) (record { name = n; args = xs }) rest

-- Directives?
abbrev pub Directives : Bool → List Lexeme → List Directive → List Lexeme → Type 0
Directives constant = Many (IsDirective constant)

-- ---- types and variables (sections 2.10 and 2.11)

-- Name !? | [ Type ] !?
pub data IsType : List Lexeme → TypeRef → List Lexeme → Type 0 where
  named : {n : Text} {rest : List Lexeme} → IsType (Name n ∷ rest) (t.Named n false) rest
  named_strict : {n : Text} {rest : List Lexeme} → IsType (Name n ∷ bang ∷ rest) (t.Named n true) rest
  listed : {ts rest : List Lexeme} {x : TypeRef} → IsType ts x (end_bracket ∷ rest) →
      IsType (bracket ∷ ts) (t.Listed x false) rest
  listed_strict : {ts rest : List Lexeme} {x : TypeRef} → IsType ts x (end_bracket ∷ bang ∷ rest) →
      IsType (bracket ∷ ts) (t.Listed x true) rest

-- (= Value)?
pub data MaybeDefault : List Lexeme → Option GValue → List Lexeme → Type 0 where
  no_default : {rest : List Lexeme} → MaybeDefault rest None rest
  a_default : {ts rest : List Lexeme} {x : GValue} → IsValue true ts x rest → MaybeDefault (equals ∷ ts) (Some x) rest

-- $ Name : Type (= Value)? Directives?
pub data IsVarDef : List Lexeme → VarDef → List Lexeme → Type 0 where
  a_variable : {n : Text} {ts t1 t2 rest : List Lexeme} {type : TypeRef} {value : Option GValue} {ds : List Directive} →
      IsType ts type t1 → MaybeDefault t1 value t2 → Directives true t2 ds rest →
      IsVarDef (dollar ∷ Name n ∷ colon ∷ ts) (record { name = n; kind = type; default = value; directives = ds }) rest

-- VarDefs? : nothing, or ( VarDef+ )
pub data MaybeVariables : List Lexeme → List VarDef → List Lexeme → Type 0 where
  no_variables : {rest : List Lexeme} → MaybeVariables rest [] rest
  some_variables : {ts mid rest : List Lexeme} {x : VarDef} {xs : List VarDef} → IsVarDef ts x mid →
      Many IsVarDef mid xs (end_paren ∷ rest) → MaybeVariables (paren ∷ ts) (x ∷ xs) rest

-- ---- selections (sections 2.4 to 2.8)

-- (Name :)? Name
pub data IsFieldName : List Lexeme → Option Text × Text → List Lexeme → Type 0 where
  plain : {n : Text} {rest : List Lexeme} → IsFieldName (Name n ∷ rest) (None, n) rest
  aliased : {a n : Text} {rest : List Lexeme} → IsFieldName (Name a ∷ colon ∷ Name n ∷ rest) (Some a, n) rest

mutual
  pub data IsSelection : List Lexeme → Selection → List Lexeme → Type 0 where
    -- (Name :)? Name Arguments? Directives? SelectionSet?
    field : {ts t1 t2 t3 rest : List Lexeme} {called : Option Text × Text} {args : List GPair} {ds : List Directive}
        {set : List Selection} →
        IsFieldName ts called t1 → MaybeArguments false t1 args t2 → Directives false t2 ds t3 → MaybeSet t3 set rest →
        IsSelection ts (s.Field called.0 called.1 args ds set) rest
    -- ... FragName Directives?, where a fragment's name isn't on
    spread : {n : Text} {ts rest : List Lexeme} {ds : List Directive} → n ≢ codes "on" → Directives false ts ds rest →
        IsSelection (Spread ∷ Name n ∷ ts) (s.Spread n ds) rest
    -- ... Directives? SelectionSet
    inline : {ts mid rest : List Lexeme} {ds : List Directive} {set : List Selection} →
        Directives false ts ds mid → IsSet mid set rest → IsSelection (Spread ∷ ts) (s.Inline None ds set) rest
    -- ... on Name Directives? SelectionSet
    inline_on : {n : Text} {ts mid rest : List Lexeme} {ds : List Directive} {set : List Selection} →
        Directives false ts ds mid → IsSet mid set rest →
        IsSelection (Spread ∷ Name (codes "on") ∷ Name n ∷ ts) (s.Inline (Some n) ds set) rest

  pub data IsSelections : List Lexeme → List Selection → List Lexeme → Type 0 where
    no_selections : {rest : List Lexeme} → IsSelections rest [] rest
    more_selections : {ts mid rest : List Lexeme} {x : Selection} {xs : List Selection} → IsSelection ts x mid →
        IsSelections mid xs rest → IsSelections ts (x ∷ xs) rest

  -- { Selection+ }
  pub data IsSet : List Lexeme → List Selection → List Lexeme → Type 0 where
    a_set : {ts mid rest : List Lexeme} {x : Selection} {xs : List Selection} → IsSelection ts x mid →
        IsSelections mid xs (end_brace ∷ rest) → IsSet (brace ∷ ts) (x ∷ xs) rest

  -- SelectionSet?
  pub data MaybeSet : List Lexeme → List Selection → List Lexeme → Type 0 where
    no_set : {rest : List Lexeme} → MaybeSet rest [] rest
    some_set : {ts rest : List Lexeme} {xs : List Selection} → IsSet ts xs rest → MaybeSet ts xs rest

-- ---- definitions (sections 2.2, 2.3 and 2.8)

-- query | mutation | subscription
pub data IsOpWord : Text → OpWord → Type 0 where
  query : IsOpWord (codes "query") word.Query
  mutation : IsOpWord (codes "mutation") word.Mutation
  subscription : IsOpWord (codes "subscription") word.Subscription

pub data IsDefinition : List Lexeme → Definition → List Lexeme → Type 0 where
  -- SelectionSet, which is a query
  shorthand : {ts rest : List Lexeme} {set : List Selection} → IsSet ts set rest →
      IsDefinition ts (d.Operation word.Query None [] [] set) rest
  -- OpWord Name? VarDefs? Directives? SelectionSet
  operation : {w : Text} {o : OpWord} {ts t1 t2 t3 rest : List Lexeme} {name : Option Text}
      {vars : List VarDef} {ds : List Directive} {set : List Selection} →
      IsOpWord w o → MaybeName ts name t1 → MaybeVariables t1 vars t2 → Directives false t2 ds t3 → IsSet t3 set rest →
      IsDefinition (Name w ∷ ts) (d.Operation o name vars ds set) rest
  -- fragment FragName on Name Directives? SelectionSet
  fragment : {n on : Text} {ts mid rest : List Lexeme} {ds : List Directive} {set : List Selection} →
      n ≢ codes "on" → Directives false ts ds mid → IsSet mid set rest →
      IsDefinition (Name (codes "fragment") ∷ Name n ∷ Name (codes "on") ∷ Name on ∷ ts) (d.Fragment n on ds set)
      rest

-- Definition+
pub data IsDocument : List Lexeme → Document → List Lexeme → Type 0 where
  a_document : {ts mid rest : List Lexeme} {x : Definition} {xs : List Definition} → IsDefinition ts x mid →
      Many IsDefinition mid xs rest → IsDocument ts (record { definitions = x ∷ xs }) rest
