-- The bytes of each line of a listing; numbers are decimal. Assumes nothing.
use Rattle.std.specs.Prelude.{ℕ, Bool, true, false, List, [], ◌++◌, Some, None, codes, decimal, Option}
use Prim.Native.String.{String}
use Rattle.std.specs.List.{flat_map}
use Rattle.model.specs.declared.items.Step.{Step}

-- a label, and a number behind it
abbrev pub numbered : String → ℕ → List ℕ
numbered label n = codes label ++ decimal n

abbrev pub ask_text : ℕ → ℕ → List ℕ
ask_text from to = numbered "ask " from ++ (numbered " " to ++ codes "\n")

-- both enodes of the question are this one
abbrev pub same_text : ℕ → List ℕ
same_text e = numbered "same " e ++ codes "\n"

abbrev pub enode_text : ℕ → List ℕ
enode_text e = numbered " " e

abbrev pub tells_text : Option ℕ → List ℕ
tells_text None = []
tells_text (Some e) = numbered " tells " e

-- the enodes of a root walk in order, and the enode that it tells, if any
abbrev pub walk_text : List ℕ → Option ℕ → List ℕ
walk_text es told = codes "walk" ++ flat_map enode_text es ++ (tells_text told ++ codes "\n")

-- forward or backward
abbrev pub sign_text : Bool → List ℕ
sign_text true = codes "+"
sign_text false = codes "-"

abbrev pub step_text : Step → List ℕ
step_text s = codes " " ++ sign_text s.forward ++ numbered "g" s.given

abbrev pub path_text : List Step → List ℕ
path_text steps = codes "path" ++ flat_map step_text steps ++ codes "\n"

abbrev pub no_path_text : List ℕ
no_path_text = codes "no path\n"

-- a refusal by its number, and the place of the call's head in the log
abbrev pub refused_text : ℕ → ℕ → List ℕ
refused_text number place = numbered "refused " number ++ (numbered " at " place ++ codes "\n")

-- how many there are of each
abbrev pub totals_text : ℕ → ℕ → ℕ → List ℕ
totals_text enodes givens frames = numbered "enodes " enodes ++ (numbered " givens " givens ++ (numbered " frames " frames ++ codes "\n"))
