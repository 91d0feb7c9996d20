-- Paths that a person worked out, which the definitions have to give.
use Rattle.std.proofs.Common.{◌≡◌, [], Some, None, codes, refl}
use Rattle.support.specs.paths.Paths.{folder_path, tree_path}

-- empty parts and `.` go, `..` takes the part before away
tidied : tree_path (codes "/s") (codes "lib") (codes "a//b/./../c.c") ≡ Some (codes "lib/a/c.c")
tidied = refl

another_folder : tree_path (codes "/s") (codes "lib") (codes "../inc/x.h") ≡ Some (codes "inc/x.h")
another_folder = refl

above_the_root : tree_path (codes "/s") (codes "lib") (codes "../../s/lib/x.c") ≡ None
above_the_root = refl

from_the_root : tree_path (codes "/s") (codes "lib") (codes "/s/a/../b.c") ≡ Some (codes "b.c")
from_the_root = refl

-- a folder that only begins with the name of the root is another one
beside_the_root : tree_path (codes "/s") [] (codes "/src/b.c") ≡ None
beside_the_root = refl

-- the root is a folder, and no file
the_root : folder_path (codes "/s") (codes "lib") (codes "..") ≡ Some []
the_root = refl

no_file : tree_path (codes "/s") (codes "lib") (codes "..") ≡ None
no_file = refl
