-- Modules with lemmas about directions, steps between points, and what lies around a point.
pub mod SteepestStep
pub mod Surfaces
pub mod Nearby
pub mod ThreeRows
pub mod StepFits
