-- Size, Joins and Tops of each node, by its children.
use Rattle.std.proofs.Common.{◌≡◌, ◌≤◌, ◌+◌, ℕ, List, [], ◌∷◌, Option, ap, ◌∙◌, sym, refl, Bool, true, false, cond, arith}
use Rattle.pdn_base.specs.declared.order.Key.{Key}
use Rattle.pdn_tree.specs.declared.node.Node.{Node, Node-F, fold-roll-Node}
use Rattle.pdn_tree.specs.declared.node.Node.TheVariants.{rolls-Scan, rolls-Filter, rolls-Project, rolls-Join, rolls-Group, rolls-Count, rolls-Distinct, rolls-Number, rolls-Top}
use Rattle.pdn_tree.specs.declared.node.Node.TheVariants as node
use Rattle.pdn_tree.specs.Columns.{Clauses}
use Rattle.pdn_tree.specs.Shapes.{nodes, node_step, has_join, join_step, tops, top_step}
use Rattle.pdn_plan.specs.declared.steps.Step.{Step}
use Rattle.pdn_plan.specs.declared.steps.Step.TheVariants.{Grouped, Counted, Numbered, Unchanged}
use Rattle.pdn_plan.specs.Planning.{filtered, cut_to, step_node, distinct_if}
use Rattle.std.specs.Str.{bytes_eq}
use Rattle.std.specs.List.{range_with_len}

pub nodes-Scan : (t : ℕ) → nodes (node.Scan t) ≡ 1
nodes-Scan t = ap nodes (sym (rolls-Scan t)) ∙ fold-roll-Node ℕ node_step (Node-F.Scan t)

pub joins-Scan : (t : ℕ) → has_join (node.Scan t) ≡ false
joins-Scan t = ap has_join (sym (rolls-Scan t)) ∙ fold-roll-Node Bool join_step (Node-F.Scan t)

pub tops-Scan : (t : ℕ) → tops (node.Scan t) ≡ 0
tops-Scan t = ap tops (sym (rolls-Scan t)) ∙ fold-roll-Node ℕ top_step (Node-F.Scan t)

pub nodes-Join : (l r : Node) (on : Clauses) → nodes (node.Join l r on) ≡ 1 + (nodes l + nodes r)
nodes-Join l r on = ap nodes (sym (rolls-Join l r on)) ∙ fold-roll-Node ℕ node_step (Node-F.Join l r on)

pub joins-Join : (l r : Node) (on : Clauses) → has_join (node.Join l r on) ≡ true
joins-Join l r on = ap has_join (sym (rolls-Join l r on)) ∙ fold-roll-Node Bool join_step (Node-F.Join l r on)

pub tops-Join : (l r : Node) (on : Clauses) → tops (node.Join l r on) ≡ tops l + tops r
tops-Join l r on = ap tops (sym (rolls-Join l r on)) ∙ fold-roll-Node ℕ top_step (Node-F.Join l r on)

pub nodes-Top : (n : Node) (order : List Key) (limit : Option ℕ) → nodes (node.Top n order limit) ≡ 1 + nodes n
nodes-Top n order limit = ap nodes (sym (rolls-Top n order limit)) ∙ fold-roll-Node ℕ node_step (Node-F.Top n order limit)

pub tops-Top : (n : Node) (order : List Key) (limit : Option ℕ) → tops (node.Top n order limit) ≡ 1 + tops n
tops-Top n order limit = ap tops (sym (rolls-Top n order limit)) ∙ fold-roll-Node ℕ top_step (Node-F.Top n order limit)

-- A tree above another that has no Join and no Top of its own.
pub record Above (m n : Node) : Type 0 where
  pub same_join : has_join m ≡ has_join n
  pub same_tops : tops m ≡ tops n
  pub no_smaller : nodes n ≤ nodes m

pub above-same : (n : Node) → Above n n
above-same n = record { same_join = refl; same_tops = refl; no_smaller = omega arith }

pub above-more : {l m n : Node} → Above l m → Above m n → Above l n
above-more a b = record { same_join = a.same_join ∙ b.same_join; same_tops = a.same_tops ∙ b.same_tops; no_smaller = omega (arith, a.no_smaller, b.no_smaller) }

one_more : (m n : ℕ) → m ≡ 1 + n → n ≤ m
one_more m n e = omega (arith, e)

above-Filter : (n : Node) (c : Clauses) → Above (node.Filter n c) n
above-Filter n c = record {
  same_join = ap has_join (sym (rolls-Filter n c)) ∙ fold-roll-Node Bool join_step (Node-F.Filter n c);
  same_tops = ap tops (sym (rolls-Filter n c)) ∙ fold-roll-Node ℕ top_step (Node-F.Filter n c);
  no_smaller = one_more _ _ (ap nodes (sym (rolls-Filter n c)) ∙ fold-roll-Node ℕ node_step (Node-F.Filter n c));
}

above-Project : (n : Node) (c : List ℕ) → Above (node.Project n c) n
above-Project n c = record {
  same_join = ap has_join (sym (rolls-Project n c)) ∙ fold-roll-Node Bool join_step (Node-F.Project n c);
  same_tops = ap tops (sym (rolls-Project n c)) ∙ fold-roll-Node ℕ top_step (Node-F.Project n c);
  no_smaller = one_more _ _ (ap nodes (sym (rolls-Project n c)) ∙ fold-roll-Node ℕ node_step (Node-F.Project n c));
}

above-Group : (n : Node) (c : List ℕ) (h : Option ℕ) → Above (node.Group n c h) n
above-Group n c h = record {
  same_join = ap has_join (sym (rolls-Group n c h)) ∙ fold-roll-Node Bool join_step (Node-F.Group n c h);
  same_tops = ap tops (sym (rolls-Group n c h)) ∙ fold-roll-Node ℕ top_step (Node-F.Group n c h);
  no_smaller = one_more _ _ (ap nodes (sym (rolls-Group n c h)) ∙ fold-roll-Node ℕ node_step (Node-F.Group n c h));
}

above-Count : (n : Node) → Above (node.Count n) n
above-Count n = record {
  same_join = ap has_join (sym (rolls-Count n)) ∙ fold-roll-Node Bool join_step (Node-F.Count n);
  same_tops = ap tops (sym (rolls-Count n)) ∙ fold-roll-Node ℕ top_step (Node-F.Count n);
  no_smaller = one_more _ _ (ap nodes (sym (rolls-Count n)) ∙ fold-roll-Node ℕ node_step (Node-F.Count n));
}

pub nodes-Distinct : (n : Node) → nodes (node.Distinct n) ≡ 1 + nodes n
nodes-Distinct n = ap nodes (sym (rolls-Distinct n)) ∙ fold-roll-Node ℕ node_step (Node-F.Distinct n)

pub above-Distinct : (n : Node) → Above (node.Distinct n) n
above-Distinct n = record {
  same_join = ap has_join (sym (rolls-Distinct n)) ∙ fold-roll-Node Bool join_step (Node-F.Distinct n);
  same_tops = ap tops (sym (rolls-Distinct n)) ∙ fold-roll-Node ℕ top_step (Node-F.Distinct n);
  no_smaller = one_more _ _ (nodes-Distinct n);
}

above-Number : (n : Node) (p : List ℕ) (o : List Key) → Above (node.Number n p o) n
above-Number n p o = record {
  same_join = ap has_join (sym (rolls-Number n p o)) ∙ fold-roll-Node Bool join_step (Node-F.Number n p o);
  same_tops = ap tops (sym (rolls-Number n p o)) ∙ fold-roll-Node ℕ top_step (Node-F.Number n p o);
  no_smaller = one_more _ _ (ap nodes (sym (rolls-Number n p o)) ∙ fold-roll-Node ℕ node_step (Node-F.Number n p o));
}

-- ---- what stands in a block above its sources

pub above-filtered : (c : Clauses) (n : Node) → Above (filtered c n) n
above-filtered [] n = above-same n
above-filtered (c ∷ cs) n = above-Filter n (c ∷ cs)

pub above-cut : (w : ℕ) (columns : List ℕ) (n : Node) → Above (cut_to w columns n) n
above-cut w columns n = one (bytes_eq columns (range_with_len 0 w))
  where
    one : (b : Bool) → Above (cond b n (node.Project n columns)) n
    one true = above-same n
    one false = above-Project n columns

pub above-step : (kept : List ℕ) (s : Step) (n : Node) → Above (step_node kept s n) n
above-step kept (Grouped keys having) n = above-Group n _ having
above-step kept Counted n = above-Count n
above-step kept (Numbered partition order) n = above-Number n _ _
above-step kept Unchanged n = above-same n

pub above-distinct : (b : Bool) (n : Node) → Above (distinct_if b n) n
above-distinct true n = above-Distinct n
above-distinct false n = above-same n
