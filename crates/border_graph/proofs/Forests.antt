pub mod Left
pub mod Next
pub mod Others
pub mod Connected
pub mod Roots
pub mod Kruskal
pub mod Sufficing
