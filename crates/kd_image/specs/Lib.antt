pub mod HasTree
