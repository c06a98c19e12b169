-- What keys and headers define keeps the strings of values as they are.
use Rattle.std.proofs.Common.{ℕ, List, [], ◌∷◌, ◌++◌, Option, Ordering, Less, Equal, Greater}
use Rattle.std.proofs.lemmas.Bool.{cond_both}
use Rattle.std.specs.Ordering.{nat_cmp, match_ordering}
use Rattle.std.specs.Cmp.Lexicographic.{slice_cmp}
use Rattle.toml_parser.specs.Strings.{Key}
use Rattle.toml.specs.Data.{Data, table, Items, no_items, item, same_key, push_item}
use Rattle.toml.specs.Tables.{implicit, dotted, header, Node, value, open_table, open_array, Nodes, no_nodes, node, get_node, insert, replace, close_node, close, Edit, header_node, dot_node, by_header, by_dot, along_header, along_dots, Definition, key_value, std_table, array_table, Expression, new_node, redefine, at_found, at_key, put, Document, define_as, define}
use Rattle.metadata_bounds.specs.Strings.{Short, ShortItems, ShortMembers}
use Rattle.metadata_bounds.proofs.Given.{Given, absent, given, given_if, given_map}

module _ (n : ℕ) where
  abbrev mutual
    pub ShortNode : Node → Type 0
    ShortNode (value d) = Short n d
    ShortNode (open_table origin ns) = ShortNodes ns
    ShortNode (open_array done ns) = ShortItems n done × ShortNodes ns

    pub ShortNodes : Nodes → Type 0
    ShortNodes no_nodes = Unit {0}
    ShortNodes (node k x ns) = ShortNode x × ShortNodes ns

  pub push_short : (ds : Items) (d : Data) → ShortItems n ds → Short n d → ShortItems n (push_item ds d)
  push_short no_items d all h = (h, tt)
  push_short (item e ds) d all h = (all.0, push_short ds d all.1 h)

  mutual
    close_node_short : (x : Node) → ShortNode x → Short n (close_node x)
    close_node_short (value d) h = h
    close_node_short (open_table origin ns) h = close_short ns h
    close_node_short (open_array done ns) h = push_short done (table (close ns)) h.0 (close_short ns h.1)

    pub close_short : (ns : Nodes) → ShortNodes ns → ShortMembers n (close ns)
    close_short no_nodes h = tt
    close_short (node k x ns) h = (close_node_short x h.0, close_short ns h.1)

  -- ---- nodes

  found_short : (k : List ℕ) (ns : Nodes) → ShortNodes ns → Given ShortNode (get_node k ns)
  found_short k no_nodes all = absent
  found_short k (node l x ns) all = given_if (same_key k l) _ _ (λ e. given all.0) (λ e. found_short k ns all.1)

  insert_short : (k : List ℕ) (x : Node) (ns : Nodes) → ShortNode x → ShortNodes ns → ShortNodes (insert k x ns)
  insert_short k x no_nodes h all = (h, tt)
  insert_short k x (node l y ns) h all = go (slice_cmp nat_cmp k l) (insert_short k x ns h all.1)
    where
      go : (o : Ordering) → ShortNodes (insert k x ns) → ShortNodes (match_ordering o (node k x (node l y ns)) (node l x ns) (node l y (insert k x ns)))
      go Less more = (h, all)
      go Equal more = (h, all.1)
      go Greater more = (all.0, more)

  replace_short : (k : List ℕ) (x : Node) (ns : Nodes) → ShortNode x → ShortNodes ns → ShortNodes (replace k x ns)
  replace_short k x no_nodes h all = tt
  replace_short k x (node l y ns) h all = cond_both (same_key k l) _ _ ShortNodes (λ e. (h, all.1)) (λ e. (all.0, replace_short k x ns h all.1))

  -- ---- edits

  abbrev pub Keeps : Edit → Type 0
  Keeps edit = (ns : Nodes) → ShortNodes ns → Given ShortNodes (edit ns)

  header_short : (edit : Edit) → Keeps edit → (x : Node) → ShortNode x → Given ShortNode (header_node edit x)
  header_short edit keeps (value d) h = absent
  header_short edit keeps (open_table origin ns) h = given_map ShortNodes (open_table origin) (edit ns) (keeps ns h) (λ ms k. k)
  header_short edit keeps (open_array done ns) h = given_map ShortNodes (open_array done) (edit ns) (keeps ns h.1) (λ ms k. (h.0, k))

  dot_short : (edit : Edit) → Keeps edit → (x : Node) → ShortNode x → Given ShortNode (dot_node edit x)
  dot_short edit keeps (value d) h = absent
  dot_short edit keeps (open_table header ns) h = absent
  dot_short edit keeps (open_table implicit ns) h = given_map ShortNodes (open_table dotted) (edit ns) (keeps ns h) (λ ms k. k)
  dot_short edit keeps (open_table dotted ns) h = given_map ShortNodes (open_table dotted) (edit ns) (keeps ns h) (λ ms k. k)
  dot_short edit keeps (open_array done ns) h = absent

  by_header_short : (k : List ℕ) (edit : Edit) → Keeps edit → (ns : Nodes) (o : Option Node) → ShortNodes ns → Given ShortNode o → Given ShortNodes (by_header k edit ns o)
  by_header_short k edit keeps ns o all absent = given_map ShortNodes (λ new. insert k (open_table implicit new) ns) (edit no_nodes) (keeps no_nodes tt) (λ ms h. insert_short k (open_table implicit ms) ns h all)
  by_header_short k edit keeps ns o all (given {x = x} h) = given_map ShortNode (λ new. replace k new ns) (header_node edit x) (header_short edit keeps x h) (λ y g. replace_short k y ns g all)

  by_dot_short : (k : List ℕ) (edit : Edit) → Keeps edit → (ns : Nodes) (o : Option Node) → ShortNodes ns → Given ShortNode o → Given ShortNodes (by_dot k edit ns o)
  by_dot_short k edit keeps ns o all absent = given_map ShortNodes (λ new. insert k (open_table dotted new) ns) (edit no_nodes) (keeps no_nodes tt) (λ ms h. insert_short k (open_table dotted ms) ns h all)
  by_dot_short k edit keeps ns o all (given {x = x} h) = given_map ShortNode (λ new. replace k new ns) (dot_node edit x) (dot_short edit keeps x h) (λ y g. replace_short k y ns g all)

  along_header_keeps : (path : List (List ℕ)) (edit : Edit) → Keeps edit → Keeps (along_header path edit)
  unfolding along_header
  along_header_keeps [] edit keeps ns all = keeps ns all
  along_header_keeps (k ∷ path) edit keeps ns all = by_header_short k (along_header path edit) (along_header_keeps path edit keeps) ns (get_node k ns) all (found_short k ns all)

  along_dots_keeps : (path : List (List ℕ)) (edit : Edit) → Keeps edit → Keeps (along_dots path edit)
  unfolding along_dots
  along_dots_keeps [] edit keeps ns all = keeps ns all
  along_dots_keeps (k ∷ path) edit keeps ns all = by_dot_short k (along_dots path edit) (along_dots_keeps path edit keeps) ns (get_node k ns) all (found_short k ns all)

  -- ---- definitions

  abbrev pub ShortDefinition : Definition → Type 0
  ShortDefinition (key_value d) = Short n d
  ShortDefinition std_table = Unit {0}
  ShortDefinition array_table = Unit {0}

  new_short : (what : Definition) → ShortDefinition what → ShortNode (new_node what)
  new_short (key_value d) h = h
  new_short std_table h = tt
  new_short array_table h = (tt, tt)

  redefine_short : (what : Definition) (x : Node) → ShortNode x → Given ShortNode (redefine what x)
  redefine_short std_table (open_table implicit ns) h = given h
  redefine_short std_table (open_table dotted ns) h = absent
  redefine_short std_table (open_table header ns) h = absent
  redefine_short std_table (value d) h = absent
  redefine_short std_table (open_array done ns) h = absent
  redefine_short array_table (open_array done ns) h = given (push_short done (table (close ns)) h.0 (close_short ns h.1), tt)
  redefine_short array_table (value d) h = absent
  redefine_short array_table (open_table origin ns) h = absent
  redefine_short (key_value d) x h = absent

  found_keeps : (k : List ℕ) (what : Definition) → ShortDefinition what → (ns : Nodes) (o : Option Node) → ShortNodes ns → Given ShortNode o → Given ShortNodes (at_found k what ns o)
  found_keeps k what short ns o all absent = given (insert_short k (new_node what) ns (new_short what short) all)
  found_keeps k what short ns o all (given {x = x} h) = given_map ShortNode (λ y. replace k y ns) (redefine what x) (redefine_short what x h) (λ y g. replace_short k y ns g all)

  at_key_keeps : (k : List ℕ) (what : Definition) → ShortDefinition what → Keeps (at_key k what)
  unfolding at_key
  at_key_keeps k what short ns all = found_keeps k what short ns (get_node k ns) all (found_short k ns all)

  pub put_keeps : (key : Key) (d : Data) → Short n d → Keeps (put key d)
  put_keeps key d h = along_dots_keeps key.0 (at_key key.1 (key_value d)) (at_key_keeps key.1 (key_value d) h)

  define_as_short : (doc : Document) (key : Key) (what : Definition) → ShortNodes doc.0 → ShortDefinition what → Given (λ next. ShortNodes next.0) (define_as doc key what)
  define_as_short doc key (key_value d) all h = given_map ShortNodes (λ root. (root, doc.1)) (along_header doc.1 (put key d) doc.0) (along_header_keeps doc.1 (put key d) (put_keeps key d h) doc.0 all) (λ root k. k)
  define_as_short doc key std_table all h =
      given_map ShortNodes (λ root. (root, key.0 ++ key.1 ∷ [])) (along_header key.0 (at_key key.1 std_table) doc.0) (along_header_keeps key.0 (at_key key.1 std_table) (at_key_keeps key.1 std_table tt) doc.0 all) (λ root k. k)
  define_as_short doc key array_table all h =
      given_map ShortNodes (λ root. (root, key.0 ++ key.1 ∷ [])) (along_header key.0 (at_key key.1 array_table) doc.0) (along_header_keeps key.0 (at_key key.1 array_table) (at_key_keeps key.1 array_table tt) doc.0 all) (λ root k. k)

  pub define_short : (doc : Document) (e : Expression) → ShortNodes doc.0 → ShortDefinition e.1 → Given (λ next. ShortNodes next.0) (define doc e)
  unfolding define
  define_short doc e all h = define_as_short doc e.0 e.1 all h
